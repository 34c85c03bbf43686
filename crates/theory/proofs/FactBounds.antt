-- A fact's misses are at most its bound, in the machines on k lines.
use Prim.Native.Nat.{ℕ, suc, ◌+◌, ◌-◌, ◌*◌, ◌/◌, ◌≤◌, ◌<◌}
use native.Mathlib.Omega.{arith}
use native.Mathlib.Decide.{dec_le}
use native.Mathlib.Nat.{mul-add, suc-mul, one-mul, mul_comm, le_trans, div-mul-le_self, le-div_iff_mul-le}
use mathlib.Core.Path.{◌≡◌, ◌∙◌, ap}
use mathlib.Core.Logic.{◌≢◌}
use mathlib.Core.List.{List}
use borrow.Author.Tests.{lt-ltb, le-ltb, lt-leb, le-leb}
use Rattle.paper.specs.Machines.{none, tree_limit}
use Rattle.paper.specs.Cases.{Fact, Case}
use Rattle.paper.specs.Walks.{Walk, KeepsLimits}
use Rattle.paper.specs.Runs.{Event, walk_of, interruptions}
use Rattle.paper.specs.Bounds.{covers, counts, ceil, g, bound_of, entered, fact_bound}
use Rattle.paper.proofs.Meaning.{SoundFact, Sound}
use Rattle.theory.proofs.Costs.{paid}
use Rattle.theory.proofs.Passing.{passing_le_counts}
use Rattle.theory.proofs.Law.{Law}
use Rattle.theory.proofs.Lru.{lru_law}
use Rattle.theory.proofs.Fifo.{fifo_law, fifo_one_law}
use Rattle.theory.proofs.Nmru.{nmru_law}
use Rattle.theory.proofs.Pair.{nmru_pair_law}
use Rattle.theory.proofs.Tree.{tree_law}
use Rattle.theory.proofs.Policies.{Policy, Lru, Fifo, Nmru, Tree, number, ideal, Fits, fair}
use Rattle.theory.proofs.Moves.{Contents, costs, misses_le}
use Rattle.theory.proofs.FactRuns.{law_bound}

-- FIFO's arithmetic: in a stay every g-th access may miss
spaced : (g F E N : ℕ) → 0 < g → g * F ≤ (g - 1) * E + 1 * N → F ≤ E + (N - E) / g
spaced g F E N h r =
    elim (dec_le F E) [
      | yes l ↦ omega arith
      | no l ↦
          let s : F ≡ F - E + E = omega arith in
          let x : g * F ≡ g * (F - E) + g * E = ap (λ (y : ℕ). g * y) s ∙ mul-add g (F - E) E in
          let t : g ≡ suc (g - 1) = omega arith in
          let y : g * E ≡ (g - 1) * E + E = ap (λ (z : ℕ). z * E) t ∙ suc-mul (g - 1) E in
          let z : (F - E) * g ≤ N - E = omega (arith, mul_comm (F - E) g) in
          omega (arith, (le-div_iff_mul-le h).1 z)
    ]

-- "g = ceil(k/(l-1))": g - 1 times as many blocks are fewer than k
module _ (k n : ℕ) (h : 0 < k) (i : 0 < n) where
  ceil_pos : 0 < ceil k n
  unfolding ceil
  ceil_pos = (le-div_iff_mul-le i).1 (omega (arith, one-mul n))

  ceil_fits : (ceil k n - 1) * n < k
  unfolding ceil
  ceil_fits =
      let t : ceil k n ≡ suc (ceil k n - 1) = omega (arith, ceil_pos) in
      let x : ceil k n * n ≡ (ceil k n - 1) * n + n = ap (λ (z : ℕ). z * n) t ∙ suc-mul (ceil k n - 1) n in
      omega (arith, div-mul-le_self (k + (n - 1)) n)

-- What keeps every law of the machine for b and l, at most N in all, keeps the table's line.
module _ (k b l E N : ℕ) (real : b ≢ none) (low : 1 ≤ l) (high : l ≤ k) where
  bounded :
      (P : Policy) → Fits P k → (F : ℕ) → ((c a d : ℕ) → Law (ideal P k) b (l - 1) c a d → c * F ≤ a * E + d * N) → F ≤ N → F ≤ bound_of (number P) k l E N
  unfolding bound_of
  bounded Lru o F by most = omega (arith, by 1 1 0 (lru_law k b (l - 1) (omega arith)))
  bounded Fifo o F by most =
      elim (dec_le 2 l) [
        | yes i ↦
            let z : 0 < l - 1 = omega arith in
            rw (le-ltb l 2 i)
            (spaced (g k l) F E N (ceil_pos k (l - 1) o z) (by (g k l) (g k l - 1) 1 (fifo_law k b (l - 1) (g k l) (ceil_fits k (l - 1) o z))))
        | no i ↦
            let z : l - 1 ≡ 0 = omega arith in
            rw (lt-ltb l 2 (omega arith)) (omega (arith, by 1 1 0 (rw z (fifo_one_law k b o))))
      ]
  bounded Nmru o F by most =
      elim (dec_le 3 l) [
        | yes i ↦
            let z : suc (l - 1) ≡ l = omega arith in
            let r = by 1 (suc (l - 1)) 0 (nmru_law b (l - 1) k real (omega arith) o) in
            rw (le-ltb l 3 i) (omega (arith, ap (λ (n : ℕ). n * E) z))
        | no i ↦ rw (lt-ltb l 3 (omega arith)) (omega (arith, by 1 1 0 (nmru_pair_law b (l - 1) k real (omega arith) o)))
      ]
  bounded Tree o F by most =
      elim (dec_le l (tree_limit k)) [
        | yes i ↦ rw (le-leb l (tree_limit k) i) (omega (arith, by 1 1 0 (tree_law b (l - 1) k real o (unfold tree_limit in omega arith))))
        | no i ↦ rw (lt-leb l (tree_limit k) (omega arith)) most
      ]

module _ (e : Case) (s : Sound e) (p : ℕ) (r : List Event) (walk : Walk e (walk_of r)) (kept : KeepsLimits e (walk_of r)) (few : interruptions r ≤ p)
    (t : Fact) (h : SoundFact e t) where
  pub fact_bounded :
      (P : Policy) → e.policy ≡ number P → (o : Fits P e.ways) (c : Contents e (ideal P e.ways) r)
      → paid (covers e t) (costs e (ideal P e.ways) r c) ≤ fact_bound e p t
  unfolding fact_bound
  fact_bounded P is o c =
      let N = counts e (covers e t) in
      omega (
        arith,
        ap (λ (n : ℕ). bound_of n e.ways t.limit (entered e p t) N) is,
        bounded e.ways t.block t.limit (entered e p t) N h.head.block h.head.low h.head.high P o
            (paid (covers e t) (costs e (ideal P e.ways) r c))
            (law_bound e s p r walk kept few (ideal P e.ways) (fair P e.ways o) c t h)
            (le_trans (misses_le e (ideal P e.ways) (fair P e.ways o) (covers e t) r c.start c.left)
            (passing_le_counts e s.graph s.nodes (covers e t) (walk_of r) walk kept)),
      )
