-- How often a block stands in a list. Membership is a number, `1 ≤ cnt x l`, so that arithmetic does the reasoning about lists.
use Prim.Native.Nat.{ℕ, ◌+◌, ◌≤◌}
use mathlib.Core.Path.{◌≡◌, sym}
use mathlib.Core.Logic.{◌≢◌}
use mathlib.Core.List.{List, [], ◌∷◌, ◌++◌, Memᴰ}
use native.Mathlib.Decide.{ℕ_discrete}
use native.Mathlib.Omega.{arith}
use borrow.Author.Tests.{eq-eqb, ne_eqb}
use lib.Dec.{eqb}
use Rattle.paper.specs.Lists.{bit}

-- the sum of a weight over a list
unfoldable pub sum : (ℕ → ℕ) → List ℕ → ℕ
sum w [] = 0
sum w (y ∷ l) = w y + sum w l

abbrev pub one : ℕ → ℕ → ℕ
one x y = bit (eqb y x)

-- how often x stands in l
abbrev pub cnt : ℕ → List ℕ → ℕ
cnt x l = sum (one x) l

pub one_yes : (x y : ℕ) → y ≡ x → one x y ≡ 1
one_yes x y p = rw eq-eqb

pub one_no : (x y : ℕ) → y ≢ x → one x y ≡ 0
one_no x y q = rw ne_eqb

pub cnt_append : (x : ℕ) (l r : List ℕ) → cnt x (l ++ r) ≡ cnt x l + cnt x r
unfolding sum
cnt_append x [] r = omega arith
cnt_append x (y ∷ l) r = omega (arith, cnt_append x l r)

-- membership of lists, by count
pub mem_cnt : {x : ℕ} {l : List ℕ} → Memᴰ x l → 1 ≤ cnt x l
unfolding sum
mem_cnt (Memᴰ.head p) = omega (arith, one_yes _ _ (sym p))
mem_cnt (Memᴰ.tail m) = omega (arith, mem_cnt m)

pub cnt_mem : (x : ℕ) (l : List ℕ) → 1 ≤ cnt x l → Memᴰ x l
unfolding sum
cnt_mem x [] h = absurd (omega arith)
cnt_mem x (y ∷ l) h =
    elim (ℕ_discrete y x) [ yes p ↦ Memᴰ.head (sym p) | no q ↦ Memᴰ.tail (cnt_mem x l (omega (arith, one_no x y q))) ]
