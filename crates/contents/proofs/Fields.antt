-- Numbers and records of the file, both ways: reading undoes writing, and what is read and written again stands where it was read. One law over all widths, one over all records.
use Prim.Native.Nat.{ℕ, zero, suc, ◌+◌, ◌*◌, ◌/◌, ◌%◌, ◌<◌}
use native.Mathlib.Omega.{arith}
use mathlib.Core.Path.{◌≡◌, refl, ◌∙◌, ap}
use mathlib.Core.Bool.{Bool, true, false, ◌&&◌, false≢true}
use mathlib.Core.List.{List, [], ◌∷◌}
use lib.Dec.{ltb}
use lib.ListN.{length, get_or, take}
use lib.Seq.{ext_get_or}
use borrow.Author.Tests.{ltb-true}
use Rattle.paper.specs.Cases.{Fact}
use Rattle.paper.specs.Demands.{Bytes}
use Rattle.paper.specs.Records as Records
use Rattle.paper.specs.Files.{u8_at, u16_at, u32_at}
use Rattle.paper.specs.OneFact.{words, head_bytes}
use Rattle.paper.specs.Writing.{number_bytes, record_bytes, words_at}
use Rattle.paper.proofs.Says.{both}
use Rattle.paper.proofs.Parts.{Stands, stands_left, stands_right, stands_move, stands_empty, stands_both, stands_tail, stands_cons}
use Rattle.paper.proofs.Sections.{length_words, word_is}
use Rattle.paper.proofs.Widths.{below_at}
use Rattle.paper.proofs.Spaces.{length_spaced, get_d_spaced}

-- so many bytes of the file from p on, as one number
unfoldable pub number_at : List ℕ → ℕ → ℕ → ℕ
number_at f zero p = 0
number_at f (suc width) p = u8_at f p + 256 * number_at f width (p + 1)

pub length_number : (width x : ℕ) → length (number_bytes width x) ≡ width
length_number zero x = refl
length_number (suc zero) x = refl
length_number (suc (suc width)) x = ap suc (length_number (suc width) (x / 256))

module _ (f : List ℕ) where
  -- the widths that the paper reads
  pub u8_number : (p : ℕ) → number_at f 1 p ≡ u8_at f p
  unfolding number_at
  u8_number p = omega arith

  pub u16_number : (p : ℕ) → number_at f 2 p ≡ u16_at f p
  unfolding number_at u16_at
  u16_number p = omega arith

  pub u32_number : (p : ℕ) → number_at f 4 p ≡ u32_at f p
  unfolding number_at u16_at u32_at
  u32_number p =
      let a : p + 1 + 1 ≡ p + 2 = omega arith in
      rw a (omega arith)

  -- Reading undoes writing, for numbers of any size: x % 256 + 256 * (x / 256) is x.
  pub number_is : (width p x : ℕ) → Stands f p (number_bytes (suc width) x) → number_at f (suc width) p ≡ x
  unfolding number_at
  number_is zero p x h =
      let a : get_or f p 0 ≡ x = ap (λ (k : ℕ). get_or f k 0) (omega arith) ∙ h.at 0 (omega arith) in
      omega arith
  number_is (suc width) p x h =
      let a : get_or f p 0 ≡ x % 256 = ap (λ (k : ℕ). get_or f k 0) (omega arith) ∙ h.at 0 (omega arith) in
      let b = number_is width (p + 1) (x / 256) (stands_tail f p (x % 256) (number_bytes (suc width) (x / 256)) h) in
      omega arith

  module _ (b : Bytes f) where
    -- Writing undoes reading.
    pub number_stands : (width p : ℕ) → Stands f p (number_bytes width (number_at f width p))
    unfolding number_at
    number_stands zero p = stands_empty f p
    number_stands (suc zero) p = stands_cons f p _ [] (omega arith) (stands_empty f (p + 1))
    number_stands (suc (suc width)) p =
        let h : u8_at f p < 256 = below_at 256 f (omega arith) b p in
        let n = number_at f (suc width) (p + 1) in
        let high : (u8_at f p + 256 * n) / 256 ≡ n = omega arith in
        rw high (stands_cons f p _ (number_bytes (suc width) n) (omega arith) (number_stands (suc width) (p + 1)))

-- a record's numbers by the widths of its fields, the first of which stands d bytes after p
abbrev pub record_at : List ℕ → ℕ → ℕ → List ℕ → List ℕ
record_at f p d [] = []
record_at f p d (width ∷ fields) = number_at f width (p + d) ∷ record_at f p (d + width) fields

-- a value for each field, and no field without a byte
abbrev pub fitting : List ℕ → List ℕ → Bool
fitting [] values = true
fitting (width ∷ fields) [] = false
fitting (width ∷ fields) (x ∷ values) = ltb 0 width && fitting fields values

module _ (f : List ℕ) (p : ℕ) where
  field_is : (width q x : ℕ) → 0 < width → Stands f q (number_bytes width x) → number_at f width q ≡ x
  field_is zero q x l h = absurd (omega arith)
  field_is (suc width) q x l h = number_is f width q x h

  -- Reading undoes writing.
  pub record_is :
      (d : ℕ) (fields values : List ℕ) → fitting fields values ≡ true → Stands f (p + d) (record_bytes fields values) → record_at f p d fields ≡ take (length fields) values
  record_is d [] values e h = refl
  record_is d (width ∷ fields) [] e h = absurd (false≢true e)
  record_is d (width ∷ fields) (x ∷ values) e h =
      let k = both (ltb 0 width) (fitting fields values) e in
      let s = record_bytes fields values in
      let a : number_at f width (p + d) ≡ x = field_is width (p + d) x (ltb-true _ _ k.0) (stands_left f (p + d) (number_bytes width x) s h) in
      let here : p + d + length (number_bytes width x) ≡ p + (d + width) = omega (arith, length_number width x) in
      let r = record_is (d + width) fields values k.1 (stands_move f _ here (stands_right f (p + d) (number_bytes width x) s h)) in
      rw (a, r) refl

  -- Writing undoes reading.
  pub record_stands : Bytes f → (d : ℕ) (fields : List ℕ) → Stands f (p + d) (record_bytes fields (record_at f p d fields))
  record_stands b d [] = stands_empty f (p + d)
  record_stands b d (width ∷ fields) =
      let x = number_at f width (p + d) in
      let here : p + (d + width) ≡ p + d + length (number_bytes width x) = omega (arith, length_number width x) in
      stands_both f (p + d) (number_bytes width x) (record_bytes fields (record_at f p (d + width) fields)) (number_stands f b width (p + d))
      (stands_move f _ here (record_stands b (d + width) fields))

-- values past the last field are not written
pub record_taken : (fields values : List ℕ) → record_bytes fields (take (length fields) values) ≡ record_bytes fields values
record_taken [] values = refl
record_taken (width ∷ fields) [] = refl
record_taken (width ∷ fields) (x ∷ values) = rw (record_taken fields values) refl

-- A section of 16-bit numbers: reading undoes writing.
pub words_read : (f : List ℕ) (p : ℕ) (xs : List ℕ) → Stands f p (words xs) → words_at f p (length xs) ≡ xs
words_read f p xs h =
    let n = length_spaced (u16_at f) 2 p (length xs) in
    ext_get_or 0 _ _ n (λ i l. get_d_spaced (u16_at f) 2 p (length xs) i (omega arith) ∙ word_is f p xs h i (omega arith))

pub length_head : (t : Fact) → length (head_bytes t) ≡ Records.head_size
length_head t = length_words (t.scope ∷ t.block ∷ t.limit ∷ [])
