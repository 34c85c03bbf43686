-- The edge rule for the edges of the file: one counts where both its ends are in the scope, and those that may stand together.
use Prim.Native.Nat.{ℕ, ◌+◌, ◌-◌, ◌≤◌, ◌<◌}
use native.Mathlib.Omega.{arith}
use native.Mathlib.Decide.{dec_le}
use mathlib.Core.Path.{◌≡◌, refl, sym, ◌∙◌}
use mathlib.Core.Logic.{◌↔◌, ⊎_elim}
use mathlib.Core.Bool.{Bool, true, false, cond, ◌||◌}
use mathlib.Core.List.{List}
use borrow.Author.Tests.{ltb-false}
use lib.Dec.{eqb, ltb}
use Rattle.paper.specs.declared.Trailer.{Trailer}
use Rattle.paper.specs.Cases.{scope_of}
use Rattle.paper.specs.Files.{node_at, from_at, to_at, row_place, row_at, case_of}
use Rattle.paper.specs.Known.{Shaped}
use Rattle.std.proofs.Common.{None}
use Rattle.paper.specs.Facts.{bad_step_at, step_number}
use Rattle.paper.proofs.Least.{Passed, passed_more}
use Rattle.paper.proofs.RowLaws.{breaks_says, broken_by_lem}
use Rattle.paper.proofs.Says.{neither, says_lt, says_or, says_false, says_true, says_is}
use Rattle.paper.proofs.Meaning.{In}
use Rattle.paper.proofs.GraphLaws.{inside_says}
use Rattle.paper.proofs.TestLaws.{step_says}
use Rattle.evidence.specs.declared.Head.{Head}
use Rattle.evidence.specs.Stands.{Stands, fact_of}
use Rattle.evidence.specs.Edges.{Splits, From}
use Rattle.layout.specs.Firsts.{first}
use Rattle.layout.proofs.FirstLaws.{first_end}
use Rattle.evidence.specs.RowParts.{breaks_at}
use Rattle.paper.proofs.Climbs.{climbs}

-- node v is not one of a to z
abbrev pub out : ℕ → ℕ → ℕ → Bool
out a z v = ltb v a || ltb z v

pub in_range_lem : (a z v : ℕ) → out a z v ≡ false → (a ≤ v) × (v ≤ z)
in_range_lem a z v e = let n = neither (ltb v a) _ e in (ltb-false v a n.0, ltb-false z v n.1)

module _ (f : List ℕ) (trailer : Trailer) (h : Head) (s : Stands f trailer h) where
  in_scope : (v : ℕ) → In (scope_of (case_of f trailer) (fact_of f h)) v ↔ ((h.first ≤ v) × (v ≤ h.last))
  unfolding case_of
  in_scope v = (λ p. omega (arith, s.first, s.last), λ p. omega (arith, s.first, s.last))

  module _ (i : ℕ) where
    -- an edge that comes from a node before the scope or after it
    step_out : ¬ ((h.first ≤ from_at f trailer i) × (from_at f trailer i ≤ h.last)) → bad_step_at (case_of f trailer) (fact_of f h) i ≡ false
    unfolding case_of
    step_out n = (says_false (step_says (case_of f trailer) (fact_of f h) i)).1 (λ p. n ((in_scope _).0 p.0.0))

    -- an edge that breaks its rule comes from a node of the scope, and that node's block and row tell which rule
    module _ (bad : bad_step_at (case_of f trailer) (fact_of f h) i ≡ true) where
      pub step_inside : (h.first ≤ from_at f trailer i) × (from_at f trailer i ≤ h.last)
      unfolding case_of
      step_inside = (in_scope _).0 (says_true (step_says (case_of f trailer) (fact_of f h) i) bad).0.0

      pub step_told_lem :
          (u x at n : ℕ) → u ≡ from_at f trailer i → x ≡ node_at f u → at ≡ row_place h.place (u - h.first) → n ≡ (row_at f at).number →
          cond (eqb x h.block) 24 (cond (eqb n 8) 25 17) ≡ step_number (case_of f trailer) (fact_of f h) i
      unfolding step_number case_of bad_step_at
      step_told_lem u x at n a b p c =
          sym
          (broken_by_lem (case_of f trailer) (fact_of f h) _ _ _ (says_is (breaks_says (case_of f trailer) (fact_of f h) _ _ _) (says_true (step_says (case_of f trailer) (fact_of f h) i) bad).1)
          ∙ rw (← a, ← b, ← s.block, ← s.first, ← p, ← c) refl)

    pub step_before : from_at f trailer i < h.first → bad_step_at (case_of f trailer) (fact_of f h) i ≡ false
    step_before l = step_out (λ p. omega arith)

    pub step_after : h.last < from_at f trailer i → bad_step_at (case_of f trailer) (fact_of f h) i ≡ false
    step_after l = step_out (λ p. omega arith)

    module _ (u v : ℕ) (w : From f trailer h i u) (b : v ≡ to_at f trailer i) where
      pub step_leaves : out h.first h.last v ≡ true → false ≡ bad_step_at (case_of f trailer) (fact_of f h) i
      unfolding case_of
      step_leaves e =
          let o = says_true (says_or (says_lt v h.first) (says_lt h.last v)) e in
          sym
          ((says_false (step_says (case_of f trailer) (fact_of f h) i)).1
          (λ p. let q = (in_scope (to_at f trailer i)).0 p.0.1 in ⊎_elim (λ l. omega arith) (λ l. omega arith) o))

      pub step_in :
          (x : ℕ) (c : Bool) → out h.first h.last v ≡ false →
          x ≡ node_at f u → c ≡ breaks_at f trailer h x (u - h.first) (v - h.first) → c ≡ bad_step_at (case_of f trailer) (fact_of f h) i
      unfolding bad_step_at case_of
      step_in x c e q z =
          let a = says_is (inside_says (scope_of (case_of f trailer) (fact_of f h)) u) ((in_scope u).1 (w.low, w.high)) in
          let o = says_is (inside_says (scope_of (case_of f trailer) (fact_of f h)) v) ((in_scope v).1 (in_range_lem _ _ v e)) in
          z ∙ rw (← w.from_is, ← b, a, o, q, s.first) refl

-- A loop over the edges from nodes of the scope is at edge i.
pub record Reached (f : List ℕ) (trailer : Trailer) (h : Head) (i : ℕ) : Type 0 where
  pub passed : Passed (bad_step_at (case_of f trailer) (fact_of f h)) trailer.edges i
  pub above : (k : ℕ) → i ≤ k → k < trailer.edges → h.first ≤ from_at f trailer k

module _ (f : List ℕ) (trailer : Trailer) (h : Head) (s : Stands f trailer h) (i : ℕ) where
  pub reached_start : Splits f trailer h.first i i → Reached f trailer h i
  reached_start w =
      record {
        passed = record { within = w.within; none = λ k q. step_before f trailer h s k (w.below k q) };
        above = w.above;
      }

  module _ (w : Reached f trailer h i) (l : i < trailer.edges) where
    pub reached_more : (b : Bool) → b ≡ bad_step_at (case_of f trailer) (fact_of f h) i → b ≡ false → Reached f trailer h (i + 1)
    reached_more b e z =
        record { passed = passed_more _ _ _ b w.passed l e z; above = λ k q. w.above k (omega arith) }

    -- the edges from here on come from nodes after the scope
    pub reached_after : Shaped (case_of f trailer) → (u : ℕ) → u ≡ from_at f trailer i → h.last < u → None ≡ first (bad_step_at (case_of f trailer) (fact_of f h)) trailer.edges
    unfolding case_of
    reached_after o u e q =
        first_end (bad_step_at (case_of f trailer) (fact_of f h)) trailer.edges trailer.edges
        (record {
          within = omega arith;
          none = λ k z.
              elim (dec_le i k) [
                | yes y ↦ step_after f trailer h s k (omega (arith, climbs (from_at f trailer) trailer.edges o.climbs i k y z))
                | no y ↦ w.passed.none k (omega arith)
              ];
        })
        (omega arith)
