-- A row's slots, tested one after the other: the blocks of a set by what may come next, then the free ones.
use Prim.Native.Nat.{ℕ, zero, suc, ◌+◌, ◌-◌, ◌%◌, ◌≤◌, ◌<◌}
use native.Mathlib.Omega.{arith}
use native.Mathlib.Numerals.{add-one}
use native.Mathlib.Decide.{dec_le}
use mathlib.Core.Path.{◌≡◌, refl, sym, ◌∙◌, ap}
use mathlib.Core.Bool.{Bool, false, not, ◌&&◌, ◌||◌}
use mathlib.Core.List.{List}
use borrow.Author.Tests.{lt-ltb, le-ltb, le-leb, lt-leb}
use lib.Dec.{eqb, ltb, leb}
use Rattle.paper.specs.declared.Trailer.{Trailer}
use Rattle.paper.specs.Machines.{none}
use Rattle.paper.specs.Cases.{Row, Case, Fact, same_set}
use Rattle.paper.specs.Files.{row_at, case_of}
use Rattle.paper.specs.Facts.{held, bad_slot}
use Rattle.paper.specs.Lists.{some}
use Rattle.paper.proofs.Least.{None, some_same}
use Rattle.paper.proofs.RowLaws.{held_set}
use Rattle.evidence.specs.declared.Head.{Head}
use Rattle.evidence.specs.Stands.{Stands, fact_of}
use Rattle.evidence.specs.RowParts.{SetAt, unfree}

-- the least that slot k may be, by the slot before it
unfoldable pub lowest : Row → ℕ → ℕ
lowest r zero = 0
lowest r (suc k) = r.slot k + 1

pub lowest_start : (r : Row) → 0 ≡ lowest r 0
unfolding lowest
lowest_start r = refl

pub lowest_more : (r : Row) (k x : ℕ) → x ≡ r.slot k → x + 1 ≡ lowest r (k + 1)
unfolding lowest
lowest_more r k x e = rw (add-one k) (ap (λ y. y + 1) e)

below_next : (x y : ℕ) → ltb x (y + 1) ≡ leb x y
below_next x y =
    elim (dec_le x y) [
      | yes h ↦ lt-ltb x (y + 1) (omega arith) ∙ sym (le-leb x y h)
      | no h ↦ le-ltb x (y + 1) (omega arith) ∙ sym (lt-leb x y (omega arith))
    ]

below_lowest : (r : Row) (k x : ℕ) → ltb x (lowest r k) ≡ (ltb 0 k && leb x (r.slot (k - 1)))
unfolding lowest
below_lowest r zero x = le-ltb x 0 (omega arith)
below_lowest r (suc k) x =
    let e : suc k - 1 ≡ k = omega arith in
    rw (lt-ltb 0 (suc k) (omega arith), e) (below_next x (r.slot k))

pub set_held : {f : List ℕ} {at n : ℕ} → SetAt f at n → held (row_at f at) ≡ n
set_held s = held_set _ (omega (arith, s.number, s.few)) ∙ sym s.number

module _ (f : List ℕ) (trailer : Trailer) (h : Head) (r : Row) (k x : ℕ) (q : x ≡ r.slot k) where
  -- a block of a set
  pub block_test : (n low : ℕ) (z : Bool) → Stands f trailer h → held r ≡ n → k < n → low ≡ lowest r k → z ≡ not (eqb (x % trailer.sets) h.home) →
      (eqb x none || (eqb x h.block || (z || ltb x low))) ≡ bad_slot (case_of f trailer) (fact_of f h) r k
  unfolding bad_slot same_set case_of
  block_test n low z s e l w o = rw (e, lt-ltb k n l, w, below_lowest r k x, o, s.home, s.block, q) refl

module _ (n : ℕ) (r : Row) where
  pub unfree_before : (k : ℕ) → k < n → unfree n r k ≡ false
  unfolding unfree
  unfree_before k h = rw (lt-leb n k h) refl

  pub unfree_at : (k x : ℕ) (b : Bool) → n ≤ k → x ≡ r.slot k → not (eqb x none) ≡ b → b ≡ unfree n r k
  unfolding unfree
  unfree_at k x b h q e = rw (le-leb n k h, ← q) (sym e)

  module _ (e : Case) (t : Fact) (w : held r ≡ n) (p : None (bad_slot e t r) n) where
    rest_at : (k : ℕ) → unfree n r k ≡ bad_slot e t r k
    unfolding unfree bad_slot
    rest_at k =
        elim (dec_le n k) [
          | yes h ↦ rw (le-leb n k h, w, le-ltb k n h) refl
          | no h ↦ let l : k < n = omega arith in unfree_before k l ∙ sym (p k l)
        ]

    -- the slots from n on decide where the others are as they should be
    pub rest_test : some (unfree n r) 7 ≡ some (bad_slot e t r) 7
    rest_test = some_same (unfree n r) (bad_slot e t r) 7 (λ k h. rest_at k)
