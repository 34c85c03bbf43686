-- 16-bit numbers as bytes: one number, a list of them, and the part of a list that is put.
use Prim.Native.Nat.{ℕ, zero, suc, ◌+◌, ◌-◌, ◌*◌, ◌≤◌, ◌<◌}
use native.Mathlib.Omega.{arith}
use native.Mathlib.Numerals.{add-one}
use mathlib.Core.Path.{◌≡◌, refl, ap, subst}
use mathlib.Core.List.{List, [], ◌∷◌}
use lib.ListN.{length, get_or, take, drop, length-take, length-drop, drop_of_length-le}
use lib.Seq.{drop-cons}
use Rattle.paper.specs.Lists.{spaced, part}
use Rattle.paper.specs.OneFact.{words}
use Rattle.paper.specs.Writing.{number_bytes}
use Rattle.puts.specs.Put.{Put}
use Rattle.puts.proofs.Putting.{Left, left_start, left_more, left_end}

-- the same text by another name
pub put_as : {l m s t : List ℕ} {at to : ℕ} → s ≡ t → Put l at s to m → Put l at t to m
put_as {l} {m} {s} {t} {at} {to} e p = subst (λ (text : List ℕ). Put l at text to m) e p

pub put_none : {l : List ℕ} {at : ℕ} → Put l at [] at l
put_none = record { list = refl; place = omega arith }

pub part_is : (l : List ℕ) (n p : ℕ) → p + n ≤ length l → part l p n ≡ take n (drop p l)
unfolding spaced
part_is l zero p h = refl
part_is l (suc n) p h =
    rw (drop-cons l p 0 (omega arith)) (ap {B = List ℕ} (λ r. get_or l p 0 ∷ r) (rw (add-one p) (part_is l n (suc p) (omega arith))))

-- how long the n numbers from place p on are
pub length_cut : (l : List ℕ) (p n e : ℕ) → e ≡ p + n → e ≤ length l → length (take (e - p) (drop p l)) ≡ n
length_cut l p n e q h = omega (arith, length-take (e - p) (drop p l), length-drop p l)

-- Of a list of 16-bit numbers, the first i are put: the others are left.
pub record Begun (old : List ℕ) (at : ℕ) (xs l : List ℕ) (to i : ℕ) : Type 0 where
  pub left : Left old at (words xs) l to (words (drop i xs))
  pub place : to ≡ at + 2 * i

module _ {old : List ℕ} {at : ℕ} {xs : List ℕ} where
  pub begun_start : Begun old at xs old at 0
  begun_start = record { left = left_start; place = omega arith }

  pub begun_more : {l m : List ℕ} {to next i : ℕ} → Begun old at xs l to i → i < length xs → Put l to (number_bytes 2 (get_or xs i 0)) next m → next ≡ to + 2 →
      Begun old at xs m next (i + 1)
  unfolding words
  begun_more {i = i} f h p e =
      record { left = left_more p (rw add-one (rw (drop-cons xs i 0 h) at f.left)); place = omega (arith, f.place) }

  pub begun_end : {l : List ℕ} {to i : ℕ} → Begun old at xs l to i → length xs ≤ i → Put old at (words xs) to l
  unfolding words
  begun_end {i = i} f h = left_end (rw (drop_of_length-le xs {i = i} h) at f.left)
