-- A row's slots in the list, tested one after the other.
use Prim.Native.Nat.{ℕ, zero, suc, ◌+◌, ◌-◌, ◌*◌, ◌%◌, ◌<◌}
use native.Mathlib.Omega.{arith}
use native.Mathlib.Decide.{dec_le}
use mathlib.Core.Path.{◌≡◌, refl, sym, ◌∙◌, ap}
use mathlib.Core.Bool.{Bool, not, ◌&&◌, ◌||◌}
use mathlib.Core.List.{List}
use borrow.Author.Tests.{lt-ltb, le-ltb, le-leb, lt-leb}
use lib.Dec.{eqb, ltb, leb}
use Rattle.paper.specs.declared.Trailer.{Trailer}
use Rattle.paper.specs.declared.Sets.{Sets}
use Rattle.paper.specs.Machines.{none}
use Rattle.paper.specs.Cases.{Row, Case, same_set}
use Rattle.paper.specs.Facts.{held, bad_slot, bad_row, bad_row_at}
use Rattle.paper.proofs.RowLaws.{held_set}
use Rattle.evidence.specs.declared.Head.{Head}
use Rattle.evidence.proofs.Slots.{lowest}
use Rattle.lists.specs.Listed.{row_at, fact_of, row_case, SetAt, Judged}

pub set_held : {rows : List ℕ} {at n : ℕ} → SetAt rows at n → held (row_at rows at) ≡ n
set_held s = held_set _ (omega (arith, s.number, s.few)) ∙ sym s.number

below_next : (x y : ℕ) → ltb x (y + 1) ≡ leb x y
below_next x y =
    elim (dec_le x y) [
      | yes h ↦ lt-ltb x (y + 1) (omega arith) ∙ sym (le-leb x y h)
      | no h ↦ le-ltb x (y + 1) (omega arith) ∙ sym (lt-leb x y (omega arith))
    ]

below_lowest : (r : Row) (k x : ℕ) → ltb x (lowest r k) ≡ (ltb 0 k && leb x (r.slot (k - 1)))
unfolding lowest
below_lowest r zero x = le-ltb x 0 (omega arith)
below_lowest r (suc k) x =
    let e : suc k - 1 ≡ k = omega arith in
    rw (lt-ltb 0 (suc k) (omega arith), e) (below_next x (r.slot k))

-- a block of a set
pub block_test :
    (rows : List ℕ) (t : Trailer) (h : Head) (r : Row) (k x n low : ℕ) (z : Bool) → x ≡ r.slot k → h.home ≡ h.block % t.sets → held r ≡ n → k < n → low ≡ lowest r k →
    z ≡ not (eqb (x % t.sets) h.home) → (eqb x none || (eqb x h.block || (z || ltb x low))) ≡ bad_slot (row_case t) (fact_of rows h) r k
unfolding bad_slot same_set
block_test rows t h r k x n low z q s e l w o = rw (e, lt-ltb k n l, w, below_lowest r k x, o, s, q) refl

-- where x lives
pub home_of : (t : Trailer) (sets : Sets) (h : Head) → Judged t sets h → (x y : ℕ) → y ≡ x % sets.count → y ≡ x % t.sets
home_of t sets h k x y e = e ∙ ap (λ (s : ℕ). x % s) k.count

-- the row of the head's node j
pub row_is : (e : Case) (rows : List ℕ) (h : Head) (j : ℕ) → bad_row e (fact_of rows h) (row_at rows (8 * (h.place + j))) ≡ bad_row_at e (fact_of rows h) j
unfolding bad_row_at
row_is e rows h j = refl
