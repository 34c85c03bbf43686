-- A loop that looks through the lines from line i on, for the tests of a legal state.
use Prim.Native.Nat.{ℕ, suc, ◌<◌, ◌≤◌}
use mathlib.Core.Path.{◌≡◌}
use mathlib.Core.Bool.{true, false}
use mathlib.Core.List.{List}
use lib.ListN.{length, get_or, drop, drop_of_length-le}
use lib.Seq.{drop-cons}
use borrow.Author.Tests.{eq-eqb, ne_eqb}
use Rattle.paper.specs.Machines.{none, stands, distinct, empty}

module _ (l : List ℕ) (i : ℕ) (h : i < length l) where
  pub stands_here : (b : ℕ) → get_or l i 0 ≡ b → stands (drop i l) b ≡ true
  unfolding stands
  stands_here b e = rw (drop-cons l i 0 h, eq-eqb _ _ e)

  pub stands_on : (b : ℕ) → (get_or l i 0 ≡ b → ⊥) → stands (drop i l) b ≡ stands (drop (suc i) l) b
  unfolding stands
  stands_on b e = rw (drop-cons l i 0 h, ne_eqb _ _ e)

  pub empty_not : (get_or l i 0 ≡ none → ⊥) → empty (drop i l) ≡ false
  unfolding empty
  empty_not e = rw (drop-cons l i 0 h, ne_eqb _ _ e)

  pub empty_on : get_or l i 0 ≡ none → empty (drop i l) ≡ empty (drop (suc i) l)
  unfolding empty
  empty_on e = rw (drop-cons l i 0 h, eq-eqb _ _ e)

  pub distinct_empty : get_or l i 0 ≡ none → distinct (drop i l) ≡ distinct (drop (suc i) l)
  unfolding distinct
  distinct_empty e = rw (drop-cons l i 0 h, eq-eqb _ _ e)

  pub distinct_on : (get_or l i 0 ≡ none → ⊥) → stands (drop (suc i) l) (get_or l i 0) ≡ false → distinct (drop i l) ≡ distinct (drop (suc i) l)
  unfolding distinct
  distinct_on e t = rw (drop-cons l i 0 h, ne_eqb _ _ e, t)

  pub distinct_not : (get_or l i 0 ≡ none → ⊥) → stands (drop (suc i) l) (get_or l i 0) ≡ true → distinct (drop i l) ≡ false
  unfolding distinct
  distinct_not e t = rw (drop-cons l i 0 h, ne_eqb _ _ e, t)

-- past the last line nothing is left
module _ (l : List ℕ) (i : ℕ) (h : length l ≤ i) where
  pub stands_end : (b : ℕ) → stands (drop i l) b ≡ false
  unfolding stands
  stands_end b = rw (drop_of_length-le l {i = i} h)

  pub empty_end : empty (drop i l) ≡ true
  unfolding empty
  empty_end = rw (drop_of_length-le l {i = i} h)

  pub distinct_end : distinct (drop i l) ≡ true
  unfolding distinct
  distinct_end = rw (drop_of_length-le l {i = i} h)
