-- A section of the file: reading undoes writing, and where two files have the same bytes the same numbers are read.
use Prim.Native.Nat.{ℕ, zero, suc, ◌+◌, ◌*◌, ◌/◌, ◌%◌, ◌≤◌, ◌<◌}
use native.Mathlib.Omega.{arith}
use mathlib.Core.Path.{◌≡◌, refl, sym, ◌∙◌, ap}
use mathlib.Core.List.{List, [], ◌∷◌}
use lib.ListN.{length, get_or}
use Rattle.paper.specs.Lists.{spaced}
use Rattle.paper.specs.Demands.{Bytes}
use Rattle.paper.specs.Files.{u8_at, u16_at, u32_at}
use Rattle.paper.specs.OneFact.{words}
use Rattle.paper.specs.Writing.{words_at}
use Rattle.paper.proofs.Parts.{Stands, stands_move, stands_empty, stands_cons}
use Rattle.paper.proofs.Widths.{below_at}

pub length_words : (xs : List ℕ) → length (words xs) ≡ 2 * length xs
unfolding words
length_words [] = refl
length_words (x ∷ xs) = omega (arith, length_words xs)

-- Reading undoes writing, for numbers of any size: x % 256 + 256 * (x / 256) is x.
pub word_is : (f : List ℕ) (p : ℕ) (xs : List ℕ) → Stands f p (words xs) → (i : ℕ) → i < length xs → u16_at f (p + 2 * i) ≡ get_or xs i 0
unfolding words u16_at
word_is f p [] h i l = absurd (omega arith)
word_is f p (x ∷ xs) h zero l =
    let a : get_or f (p + 2 * 0) 0 ≡ x % 256 = ap (λ (k : ℕ). get_or f k 0) (omega arith) ∙ h.at 0 (omega arith) in
    let b : get_or f (p + 2 * 0 + 1) 0 ≡ x / 256 = ap (λ (k : ℕ). get_or f k 0) (omega arith) ∙ h.at 1 (omega arith) in
    omega arith
word_is f p (x ∷ xs) h (suc i) l =
    let e : p + 2 * suc i ≡ p + 2 + 2 * i = omega arith in
    rw e (word_is f (p + 2) xs (record { at = λ j m. ap (λ (k : ℕ). get_or f k 0) (omega arith) ∙ h.at (suc (suc j)) (omega arith) }) i (omega arith))

-- The same bytes stand in f at p and in g at q.
module _ (f g : List ℕ) (p q : ℕ) (s : List ℕ) (a : Stands f p s) (b : Stands g q s) where
  pub u8_same : (i : ℕ) → i < length s → u8_at f (p + i) ≡ u8_at g (q + i)
  u8_same i l = a.at i l ∙ sym (b.at i l)

  pub u16_same : (i : ℕ) → i + 2 ≤ length s → u16_at f (p + i) ≡ u16_at g (q + i)
  unfolding u16_at
  u16_same i l =
      let c : u8_at f (p + i) ≡ u8_at g (q + i) = u8_same i (omega arith) in
      let d : u8_at f (p + i + 1) ≡ u8_at g (q + i + 1)
      = ap (λ (k : ℕ). u8_at f k) (omega arith) ∙ u8_same (i + 1) (omega arith) ∙ ap (λ (k : ℕ). u8_at g k) (omega arith) in
      rw (c, d) refl

  pub u32_same : (i : ℕ) → i + 4 ≤ length s → u32_at f (p + i) ≡ u32_at g (q + i)
  unfolding u32_at
  u32_same i l =
      let c : u16_at f (p + i) ≡ u16_at g (q + i) = u16_same i (omega arith) in
      let d : u16_at f (p + i + 2) ≡ u16_at g (q + i + 2)
      = ap (λ (k : ℕ). u16_at f k) (omega arith) ∙ u16_same (i + 2) (omega arith) ∙ ap (λ (k : ℕ). u16_at g k) (omega arith) in
      rw (c, d) refl

-- Writing undoes reading, past the end of the file too, for there zeros are read.
pub words_stand : (f : List ℕ) → Bytes f → (p n : ℕ) → Stands f p (words (words_at f p n))
unfolding spaced words u16_at
words_stand f b p zero = stands_empty f p
words_stand f b p (suc n) =
    let low : u8_at f p < 256 = below_at 256 f (omega arith) b p in
    let next : p + 2 ≡ p + 1 + 1 = omega arith in
    stands_cons f p _ _ (omega arith) (stands_cons f (p + 1) _ _ (omega arith) (stands_move f _ next (words_stand f b (p + 2) n)))
