-- Rows as bytes, 16 a row, and back.
use Prim.Native.Nat.{ℕ, zero, suc, ◌+◌, ◌*◌, ◌/◌, ◌%◌, ◌<◌}
use native.Mathlib.Omega.{arith}
use mathlib.Core.Path.{◌≡◌, refl, ◌∙◌, ap}
use mathlib.Core.Logic.{⊎_elim}
use mathlib.Core.List.Memᴰ
use mathlib.Core.List.{List, [], ◌∷◌}
use lib.ListN.{length}
use Rattle.paper.specs.Cases.{Row}
use Rattle.paper.specs.Files.{u16_at, row_at}
use Rattle.paper.specs.Demands.{Bytes}
use Rattle.theory.proofs.SameRow.{Same}

-- the words w 0, w 1, … as bytes, n of them
unfoldable bytes_of : (ℕ → ℕ) → ℕ → List ℕ
bytes_of w zero = []
bytes_of w (suc n) = w 0 % 256 ∷ w 0 / 256 ∷ bytes_of (λ i. w (suc i)) n

length_bytes : (w : ℕ → ℕ) (n : ℕ) → length (bytes_of w n) ≡ 2 * n
unfolding bytes_of
length_bytes w zero = refl
length_bytes w (suc n) = omega (arith, length_bytes (λ i. w (suc i)) n)

small_bytes : (w : ℕ → ℕ) (n : ℕ) → ((i : ℕ) → i < n → w i < 65536) → Bytes (bytes_of w n)
unfolding bytes_of
small_bytes w zero h c m = absurd (Memᴰ.not-nil m)
small_bytes w (suc n) h c m =
    ⊎_elim (λ e. omega arith)
    (λ m'. ⊎_elim (λ e. omega (arith, h 0 (omega arith))) (λ m''. small_bytes (λ i. w (suc i)) n (λ i l. h (suc i) (omega arith)) c m'') (Memᴰ.cases_cons m'))
    (Memᴰ.cases_cons m)

u16_bytes : (w : ℕ → ℕ) (n i : ℕ) → i < n → u16_at (bytes_of w n) (2 * i) ≡ w i
unfolding bytes_of u16_at
u16_bytes w zero i h = absurd (omega arith)
u16_bytes w (suc n) zero h = omega arith
u16_bytes w (suc n) (suc i) h =
    let p : 2 * suc i ≡ suc (suc (2 * i)) = omega arith in
    let p' : 2 * suc i + 1 ≡ suc (suc (2 * i + 1)) = omega arith in
    rw (p', p) (u16_bytes (λ i. w (suc i)) n i (omega arith))

-- word i of a row, and of the rows one after another
word_in : Row → ℕ → ℕ
word_in r zero = r.number
word_in r (suc k) = r.slot k

word_of : (ℕ → Row) → ℕ → ℕ
word_of rows i = word_in (rows (i / 8)) (i % 8)

module _ (rows : ℕ → Row) (n : ℕ) where
  pub written : List ℕ
  written = bytes_of (word_of rows) (8 * n)

  pub written_length : length written ≡ 16 * n
  unfolding written
  written_length = length_bytes _ _ ∙ omega arith

  pub written_small : ((j : ℕ) → j < n → (rows j).number < 65536) → ((j k : ℕ) → j < n → k < 7 → (rows j).slot k < 65536) → Bytes written
  unfolding written word_of word_in
  written_small a b = small_bytes _ _ (λ i h. go (i / 8) (i % 8) (omega arith) (omega arith))
    where
      go : (j k : ℕ) → j < n → k < 8 → word_in (rows j) k < 65536
      go j zero h l = a j h
      go j (suc k) h l = b j k h (omega arith)

  word_at : (j i : ℕ) → j < n → i < 8 → u16_at written (2 * (8 * j + i)) ≡ word_in (rows j) i
  unfolding written word_of
  word_at j i h l =
      let p : (8 * j + i) / 8 ≡ j = omega arith in
      let q : (8 * j + i) % 8 ≡ i = omega arith in
      u16_bytes _ _ (8 * j + i) (omega arith) ∙ rw (p, q) refl

  -- row j reads back
  pub written_row : (j : ℕ) → j < n → Same (rows j) (row_at written (16 * j))
  unfolding word_in
  written_row j h =
      record {
        number = let p : 16 * j ≡ 2 * (8 * j + 0) = omega arith in ap (u16_at written) p ∙ word_at j 0 h (omega arith);
        slot = λ k l. let p : 16 * j + 2 + 2 * k ≡ 2 * (8 * j + suc k) = omega arith in ap (u16_at written) p ∙ word_at j (suc k) h (omega arith);
      }
