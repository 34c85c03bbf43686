-- A set's misses are those of its facts, and of its nodes that no fact covers: "A" and "M(l)" are both such sums.
use Prim.Native.Nat.{ℕ, ◌≤◌, ◌<◌}
use native.Mathlib.Omega.{arith}
use mathlib.Core.Path.{◌≡◌, refl, sym, ◌∙◌, ap}
use mathlib.Core.Bool.{Bool, true, false, ◌&&◌, cond}
use mathlib.Core.List.{List}
use borrow.Author.Tests.{not-false}
use Rattle.paper.specs.Cases.{Fact, Case}
use Rattle.paper.specs.Walks.{Walk, KeepsLimits}
use Rattle.paper.specs.Runs.{Event, walk_of}
use Rattle.paper.specs.Bounds.{covers, lives, uncovered, sum_of}
use Rattle.paper.proofs.Least.{is_some}
use Rattle.paper.proofs.Says.{says_true, both}
use Rattle.paper.proofs.Meaning.{Sound}
use Rattle.theory.proofs.SumLaws.{sum_le, cond_le}
use Rattle.theory.proofs.Costs.{paid, paid_split}
use Rattle.theory.proofs.Passing.{passing_le_counts}
use Rattle.theory.proofs.Law.{Machine, Fair}
use Rattle.paper.proofs.TestLaws.{covers_says}
use Rattle.theory.proofs.Moves.{in_set, Contents, costs, misses_le}

-- a node of set q that is not uncovered is covered by a fact of the set that passes
covered : (e : Case) (test : Fact → Bool) (q v : ℕ) → lives e q (e.block v) ≡ true → uncovered e test q v ≡ false →
    (i : ℕ) × (i < e.facts) × ((lives e q (e.fact i).block && test (e.fact i)) ≡ true) × (covers e (e.fact i) v ≡ true)
unfolding uncovered
covered e test q v h k =
    let r = is_some (λ i. test (e.fact i) && covers e (e.fact i) v) e.facts (not-false _ (rw h at k)) in
    let z = both (test (e.fact r.at)) (covers e (e.fact r.at) v) r.holds in
    let y : lives e q (e.fact r.at).block ≡ true = ap (lives e q) (sym (says_true (covers_says e (e.fact r.at) v) z.1).1) ∙ h in
    (r.at, r.below, rw (y, z.0) refl, z.1)

-- Where each fact that passes keeps to its number, the set keeps to the sum.
pub set_sum :
    (e : Case) → Sound e → (r : List Event) → Walk e (walk_of r) → KeepsLimits e (walk_of r)
    → (M : Machine) → Fair M → (test : Fact → Bool) (each : Fact → ℕ) (q : ℕ) (c : Contents e M r)
    → ((i : ℕ) → i < e.facts → test (e.fact i) ≡ true → paid (covers e (e.fact i)) (costs e M r c) ≤ each (e.fact i))
    → paid (in_set e q) (costs e M r c) ≤ sum_of e test each q
unfolding sum_of
set_sum e s r walk kept M fair test each q c h =
    let on : ℕ → Bool = λ i. lives e q (e.fact i).block && test (e.fact i) in
    omega (
      arith,
      paid_split (in_set e q) (uncovered e test q) on (λ i. covers e (e.fact i)) e.facts (covered e test q) (costs e M r c),
      sum_le
          (λ i. cond (on i) (paid (covers e (e.fact i)) (costs e M r c)) 0)
          (λ i. cond (on i) (each (e.fact i)) 0)
          e.facts
          (λ i l. cond_le (on i) (λ z. h i l (both (lives e q (e.fact i).block) (test (e.fact i)) z).1)),
      misses_le e M fair (uncovered e test q) r c.start c.left,
      passing_le_counts e s.graph s.nodes (uncovered e test q) (walk_of r) walk kept,
    )
