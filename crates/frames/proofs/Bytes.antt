-- Numbers as bytes: the next byte, the next number, and how many bytes they take.
use Prim.Native.Nat.{ℕ, zero, suc, ◌+◌, ◌*◌, ◌/◌, ◌%◌, ◌<◌}
use native.Mathlib.Omega.{arith}
use native.Mathlib.Numerals.{add-one}
use mathlib.Core.Path.{◌≡◌, refl, sym, ◌∙◌, ap}
use mathlib.Core.List.{List, [], ◌∷◌, ◌++◌}
use lib.ListN.{length, get_or, drop, length-append, drop_of_length-le}
use lib.Seq.{drop-cons}
use Rattle.puts.specs.Put.{Put}
use Rattle.puts.proofs.Putting.{Left, left_start, left_more, left_end}
use Rattle.frames.specs.Little.{little, littles, NumberLaws}

pub little_length : (width x : ℕ) → length (little width x) ≡ width
unfolding little
little_length zero x = refl
little_length (suc width) x = omega (arith, little_length width (x / 256))

pub littles_length : (width : ℕ) (xs : List ℕ) → length (littles width xs) ≡ width * length xs
unfolding littles
littles_length width [] = omega arith
littles_length width (x ∷ xs) = simp length-append (omega (arith, little_length width x, littles_length width xs))

-- the place after a text, by another name
pub put_to : {l m s : List ℕ} {at to end : ℕ} → to ≡ end → Put l at s to m → Put l at s end m
put_to e p = record { list = p.list; place = omega (arith, p.place) }

-- a loop over a number's bytes
module _ {old text l : List ℕ} {at to : ℕ} {left : ℕ} (rest : ℕ) (f : Left old at text l to (little left rest)) where
  pub next_byte : {next : ℕ} → left ≡ suc next → Left old at text l to ((rest % 256 ∷ []) ++ little next (rest / 256))
  unfolding little
  next_byte e = rw e at f

  pub no_byte : left ≡ 0 → Left old at text l to []
  unfolding little
  no_byte e = rw e at f

-- Of a list of numbers, width bytes each, that is put from `at` on, the first i are put: the others are left.
pub record Begun {N : Type 0} (width : ℕ) (bytes_of : List N → List ℕ) (old : List ℕ) (at : ℕ) (xs : List N) (l : List ℕ) (to i : ℕ) : Type 0 where
  pub left : Left old at (bytes_of xs) l to (bytes_of (drop i xs))
  pub place : to ≡ at + width * i

module _ {N : Type 0} {width : ℕ} {value_of : N → ℕ} {bytes_of : List N → List ℕ} (laws : NumberLaws width value_of bytes_of) {old : List ℕ} {at : ℕ} {xs : List N} where
  pub begun_start : Begun width bytes_of old at xs old at 0
  begun_start = record { left = left_start; place = omega arith }

  pub begun_more : {l m : List ℕ} {to next i : ℕ} (x : N) → Begun width bytes_of old at xs l to i → i < length xs → x ≡ get_or xs i x → Put l to (little width (value_of x)) next m → next ≡ to + width →
      Begun width bytes_of old at xs m next (i + 1)
  begun_more {i = i} x f h r p e =
      let first : drop i xs ≡ x ∷ drop (suc i) xs = drop-cons xs i x h ∙ ap (λ (y : N). y ∷ drop (suc i) xs) (sym r) in
      record { left = left_more p (rw add-one (rw (first, laws.more) at f.left)); place = omega (arith, f.place) }

  pub begun_end : {l : List ℕ} {to i : ℕ} → Begun width bytes_of old at xs l to i → i ≡ length xs → Put old at (bytes_of xs) to l
  begun_end {i = i} f h = left_end (rw (drop_of_length-le xs {i = i} (omega arith), laws.none) at f.left)
