-- A part of a list that is put number by number, and which part it is.
use Prim.Native.Nat.{ℕ, zero, suc, ◌+◌, ◌-◌, ◌≤◌, ◌<◌}
use native.Mathlib.Omega.{arith}
use native.Mathlib.Numerals.{add-one}
use mathlib.Core.Path.{◌≡◌, refl, ap, subst}
use mathlib.Core.List.{List, ◌∷◌}
use lib.ListN.{length, get_or, set, take, drop}
use lib.Seq.{drop-cons}
use Rattle.paper.specs.Lists.{spaced, part}
use Rattle.puts.specs.Put.{Put}
use Rattle.puts.proofs.Putting.{put_one, Left, left_start, left_more, left_end}

pub part_is : (l : List ℕ) (n p : ℕ) → p + n ≤ length l → part l p n ≡ take n (drop p l)
unfolding spaced
part_is l zero p h = refl
part_is l (suc n) p h =
    rw (drop-cons l p 0 (omega arith)) (ap {B = List ℕ} (λ r. get_or l p 0 ∷ r) (rw (add-one p) (part_is l n (suc p) (omega arith))))

-- Of the n numbers of l from p on, i are put: the others are left.
pub record Copied (old : List ℕ) (at : ℕ) (l : List ℕ) (p n : ℕ) (m : List ℕ) (i : ℕ) : Type 0 where
  pub left : Left old at (part l p n) m (at + i) (part l (p + i) (n - i))
  pub few : i ≤ n

module _ {old : List ℕ} {at : ℕ} {l : List ℕ} {p n : ℕ} where
  pub copied_start : Copied old at l p n old 0
  copied_start =
      let a : at + 0 ≡ at = omega arith in
      let b : p + 0 ≡ p = omega arith in
      let c : n - 0 ≡ n = omega arith in
      record { left = rw (a, b, c) left_start; few = omega arith }

  pub copied_more : {m : List ℕ} {i : ℕ} → Copied old at l p n m i → i < n → Copied old at l p n (set m (at + i) (get_or l (p + i) 0)) (i + 1)
  unfolding spaced
  copied_more {m} {i} f h =
      let a : at + (i + 1) ≡ at + i + 1 = omega arith in
      let b : p + (i + 1) ≡ p + i + 1 = omega arith in
      let c : n - i ≡ suc (n - (i + 1)) = omega arith in
      record { left = rw (a, b) (left_more put_one (rw c at f.left)); few = omega arith }

  pub copied_end : {m : List ℕ} {i : ℕ} → Copied old at l p n m i → n ≤ i → Put old at (part l p n) (at + n) m
  unfolding spaced
  copied_end {m} {i} f h =
      let a : i ≡ n = omega (arith, f.few) in
      let c : n - n ≡ 0 = omega arith in
      left_end (rw c at (rw a at f.left))

-- from the start of one list to the start of another
pub numbers_more : {old l m : List ℕ} {n i : ℕ} → Copied old 0 l 0 n m i → i < n → Copied old 0 l 0 n (set m i (get_or l i 0)) (i + 1)
numbers_more {old} {l} {m} {n} {i} f h =
    let z : 0 + i ≡ i = omega arith in
    subst (λ (k : ℕ). Copied old 0 l 0 n (set m k (get_or l k 0)) (i + 1)) z (copied_more f h)

pub numbers_end : {old l m : List ℕ} {n i : ℕ} → Copied old 0 l 0 n m i → n ≤ i → Put old 0 (part l 0 n) n m
numbers_end {old} {l} {m} {n} f h =
    let z : 0 + n ≡ n = omega arith in
    subst (λ (k : ℕ). Put old 0 (part l 0 n) k m) z (copied_end f h)
