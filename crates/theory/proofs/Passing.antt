-- The visits of the nodes that pass a test are at most the sum of their counts.
use Prim.Native.Nat.{ℕ, ◌≤◌, ◌<◌}
use native.Mathlib.Omega.{arith}
use mathlib.Core.Path.{◌≡◌, refl}
use mathlib.Core.Bool.{Bool, true, false, cond}
use mathlib.Core.Option.{Option, none, some}
use mathlib.Core.List.{List, [], ◌∷◌}
use borrow.Author.Tests.{eq-eqb, lt-leb, leb-false}
use lib.Dec.{eqb, leb}
use Rattle.paper.specs.Lists.{bit}
use Rattle.paper.specs.Cases.{Case}
use Rattle.paper.specs.Graphs.{count}
use Rattle.paper.specs.Walks.{Step, Follows, Walk, KeepsLimits, visits}
use Rattle.paper.specs.Bounds.{counts}
use Rattle.paper.proofs.Meaning.{SoundGraph}
use Rattle.theory.proofs.SumLaws.{sum_le, cond_le}
use Rattle.theory.proofs.Costs.{Visit, paid, paid_split}
use Rattle.theory.proofs.Counting.{visits_le_count}

-- each visit costs 1
abbrev pub ones : List ℕ → List Visit
ones [] = []
ones (v ∷ w) = record { node = v; cost = 1 } ∷ ones w

paid_visits : (v : ℕ) (w : List ℕ) → paid (λ u. eqb u v) (ones w) ≡ visits v w
paid_visits v [] = refl
paid_visits v (u ∷ w) = omega (arith, one (eqb u v), paid_visits v w)
  where
    one : (t : Bool) → cond t 1 0 ≡ bit t
    one true = refl
    one false = refl

module _ (e : Case) (s : SoundGraph e) (nodes : 1 ≤ e.nodes) where
  low : (p : Option ℕ) (v : ℕ) → Step e p v → v < e.nodes
  low none v d = omega arith
  low (some u) v d = (s.ends u v d).1

  none_beyond : (p : Option ℕ) (w : List ℕ) → Follows e p w → paid (leb e.nodes) (ones w) ≡ 0
  none_beyond p [] k = refl
  none_beyond p (v ∷ w) k = rw (lt-leb e.nodes v (low p v k.0)) (omega (arith, none_beyond (some v) w k.1))

  pub passing_le_counts : (test : ℕ → Bool) (w : List ℕ) → Walk e w → KeepsLimits e w → paid test (ones w) ≤ counts e test
  unfolding counts
  passing_le_counts test w k kept =
      omega (
        arith,
        paid_split test (leb e.nodes) test (λ v u. eqb u v) e.nodes (λ v h o. (v, leb-false _ _ o, h, eq-eqb v v refl)) (ones w),
        none_beyond none w k,
        sum_le
            (λ v. cond (test v) (paid (λ u. eqb u v) (ones w)) 0)
            (λ v. cond (test v) (count e v) 0)
            e.nodes
            (λ v l. cond_le (test v) (λ t. omega (arith, paid_visits v w, visits_le_count e s w k kept v))),
      )
