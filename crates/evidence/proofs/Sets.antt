-- Sets of blocks: node u's block looked for in one, and one set looked for in another, where both rise.
use Prim.Native.Nat.{ℕ, suc, ◌+◌, ◌%◌, ◌≤◌, ◌<◌}
use native.Mathlib.Omega.{arith}
use native.Mathlib.Numerals.{add-one}
use native.Mathlib.Decide.{dec_le}
use mathlib.Core.Path.{◌≡◌, refl, sym, ◌∙◌, ap, subst}
use mathlib.Core.Bool.{Bool, true, false, not}
use mathlib.Core.Logic.{◌≢◌}
use mathlib.Core.List.{List}
use borrow.Author.Count.{below_more}
use borrow.Author.Tests.{eq-eqb, ne_eqb, not-true, not-false, lt-ltb, le-ltb}
use lib.Dec.{eqb, ltb}
use Rattle.paper.specs.Lists.{some}
use Rattle.paper.specs.declared.Trailer.{Trailer}
use Rattle.paper.specs.Machines.{none}
use Rattle.paper.specs.Cases.{Row, same_set}
use Rattle.paper.specs.Files.{case_of}
use Rattle.paper.specs.Facts.{held, holds}
use Rattle.paper.proofs.Least.{Passed, passed_start, passed_more, some_found, some_none, some_end}
use Rattle.paper.proofs.Says.{says_false, says_is}
use Rattle.paper.proofs.RowLaws.{holds_says}
use Rattle.layout.specs.Packed.{Alike}
use Rattle.evidence.specs.declared.Head.{Head}
use Rattle.evidence.specs.Stands.{Stands, fact_of}
use Rattle.evidence.specs.RowParts.{missing, forgets}
use Rattle.evidence.proofs.Scopes.{home_is}
use Rattle.paper.proofs.Climbs.{climbs}

-- the block x of node u, where u fetches one of b's set
module _ (f : List ℕ) (trailer : Trailer) (h : Head) (a : Stands f trailer h) (x : ℕ) (s : Row) where
  pub forgets_none : x ≡ none → false ≡ forgets (case_of f trailer) (fact_of f h) x s
  unfolding forgets
  forgets_none e = rw (eq-eqb x none e) refl

  module _ (q : x ≢ none) (z : Bool) (o : z ≡ not (eqb (x % trailer.sets) h.home)) where
    pub forgets_other : z ≡ true → false ≡ forgets (case_of f trailer) (fact_of f h) x s
    unfolding forgets same_set case_of
    forgets_other w =
        let e : eqb (x % trailer.sets) h.home ≡ false = not-true _ (sym o ∙ w) in
        rw (ne_eqb x none q, ← home_is f trailer h a, e) refl

    pub forgets_same : (b : Bool) → z ≡ false → b ≡ holds s x → not b ≡ forgets (case_of f trailer) (fact_of f h) x s
    unfolding forgets same_set case_of
    forgets_same b w e =
        let u : eqb (x % trailer.sets) h.home ≡ true = not-false _ (sym o ∙ w) in
        rw (ne_eqb x none q, ← home_is f trailer h a, u, ← e) refl

-- a row that is the same holds the same blocks
pub alike_holds : (r s : Row) (n : ℕ) → n ≤ 7 → held s ≡ n → Alike r s → some (missing r s) n ≡ false
unfolding missing
alike_holds r s n l e a =
    some_none (missing r s) n (λ k q. ap not (says_is (holds_says s (r.slot k)) (k, omega arith, sym (a.slot k (omega arith)))))

-- "strictly rising"
abbrev Rises : Row → ℕ → Type 0
Rises r n = (k : ℕ) → suc k < n → r.slot k < r.slot (suc k)

rises_on : (r : Row) (n : ℕ) → Rises r n → (j k : ℕ) → j ≤ k → k < n → r.slot j ≤ r.slot k
rises_on r n w = climbs r.slot n (λ k h. omega (arith, w k h))

-- One pass over two sets that rise is at block i of r and block j of s: s holds the blocks of r before i, and its own before j are below block i.
pub record Merged (r s : Row) (n m i j : ℕ) : Type 0 where
  pub passed : Passed (missing r s) n i
  pub within : j ≤ m
  pub below : (k : ℕ) → k < j → i < n → s.slot k < r.slot i

module _ (r s : Row) (n m : ℕ) where
  pub merged_start : Merged r s n m 0 0
  merged_start = record { passed = passed_start _ _; within = omega arith; below = λ k q l. absurd (omega arith) }

  pub merged_at : (i i' j : ℕ) → i' ≡ i → Merged r s n m i j → Merged r s n m i' j
  merged_at i i' j e w = subst (λ z. Merged r s n m z j) (sym e) w

  pub merged_end : (i j : ℕ) → Merged r s n m i j → n ≤ i → false ≡ some (missing r s) n
  merged_end i j w l = some_end _ _ _ w.passed l

  module _ (e : held s ≡ m) (i j : ℕ) (w : Merged r s n m i j) (l : i < n) where
    -- the other blocks of s are above block i: s lacks it
    lacked : ((k : ℕ) → j ≤ k → k < m → r.slot i < s.slot k) → true ≡ some (missing r s) n
    unfolding missing
    lacked above =
        some_found (missing r s) n i w.passed true l (ap not (sym ((says_false (holds_says s (r.slot i))).1 (λ o. apart o.0 o.1 o.2)))) refl
      where
        apart : (k : ℕ) → k < held s → s.slot k ≢ r.slot i
        apart k q o = elim (dec_le j k) [ yes z ↦ omega (arith, above k z (omega arith)) | no z ↦ omega (arith, w.below k (omega arith) l) ]

    pub merged_out : m ≤ j → true ≡ some (missing r s) n
    merged_out h = lacked (λ k q z. absurd (omega arith))

    module _ (h : j < m) (x y : ℕ) (a : x ≡ r.slot i) (b : y ≡ s.slot j) where
      pub merged_above : Rises s m → x < y → true ≡ some (missing r s) n
      merged_above u q = lacked (λ k z o. omega (arith, rises_on s m u j k z o))

      pub merged_skip : ¬ (x < y) → x ≢ y → Merged r s n m i (j + 1)
      merged_skip p q =
          record {
            passed = w.passed;
            within = omega arith;
            below = below_more (λ k. i < n → s.slot k < r.slot i) j w.below (λ z. omega arith);
          }

      there : x ≡ y → missing r s i ≡ false
      unfolding missing
      there q = ap not (says_is (holds_says s (r.slot i)) (j, omega arith, sym b ∙ sym q ∙ a))

      pub merged_same : Rises r n → x ≡ y → Merged r s n m (i + 1) (j + 1)
      merged_same u q =
          let low : (k : ℕ) → k < j + 1 → s.slot k ≤ r.slot i =
          below_more (λ k. s.slot k ≤ r.slot i) j (λ k z. omega (arith, w.below k z l)) (omega arith) in
          record {
            passed = passed_more _ _ _ _ w.passed l (sym (there q)) refl;
            within = omega arith;
            below = λ k z o. let v : r.slot i < r.slot (i + 1) = rw (add-one i) (u i (omega arith)) in omega (arith, low k z);
          }

-- where s is passed over, r has a block left exactly if s lacks one
pub merged_last : (r s : Row) (n m i j : ℕ) → held s ≡ m → Merged r s n m i j → m ≤ j → ltb i n ≡ some (missing r s) n
merged_last r s n m i j e w l =
    elim (dec_le n i) [
      | yes z ↦ le-ltb i n z ∙ merged_end r s n m i j w z
      | no z ↦ let q : i < n = omega arith in lt-ltb i n q ∙ merged_out r s n m e i j w q l
    ]
