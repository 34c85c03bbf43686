-- Numbers packed into one are known by it.
use Prim.Native.Nat.{ℕ, zero, suc, ◌+◌, ◌-◌, ◌*◌, ◌<◌}
use native.Mathlib.Omega.{arith}
use mathlib.Core.Path.{◌≡◌, sym, ◌∙◌, ap}
use mathlib.Core.List.{List}
use native.Mathlib.Decide.{dec_le}
use Rattle.paper.specs.Files.{u16_at, row_at}
use Rattle.layout.specs.Packed.{word_at, packed, Alike}

packed_same : (n : ℕ) (g h : ℕ → ℕ) → ((i : ℕ) → g i < 65536) → ((i : ℕ) → h i < 65536) → packed g n ≡ packed h n → (i : ℕ) → i < n → g i ≡ h i
unfolding packed
packed_same zero g h a b e i l = absurd (omega arith)
packed_same (suc n) g h a b e zero l = omega (arith, a 0, b 0)
packed_same (suc n) g h a b e (suc i) l =
    let q : packed (λ i. g (suc i)) n ≡ packed (λ i. h (suc i)) n = omega (arith, a 0, b 0) in
    packed_same n (λ i. g (suc i)) (λ i. h (suc i)) (λ i. a (suc i)) (λ i. b (suc i)) q i (omega arith)

module _ (f : List ℕ) where
  first : (p : ℕ) → u16_at f p ≡ word_at f p 0
  first p = let e : p ≡ p + 2 * 0 = omega arith in ap (u16_at f) e

  pub packed_four : (p : ℕ) → u16_at f p + 65536 * (u16_at f (p + 2) + 65536 * (u16_at f (p + 4) + 65536 * u16_at f (p + 6))) ≡ packed (word_at f p) 4
  unfolding packed
  packed_four p = omega (arith, first p)

  module _ (small : (p : ℕ) → u16_at f p < 65536) (r s : ℕ) (low : packed (word_at f r) 4 ≡ packed (word_at f s) 4) (high : packed (word_at f (r + 8)) 4 ≡ packed (word_at f (s + 8)) 4) where
    same_low : (i : ℕ) → i < 4 → word_at f r i ≡ word_at f s i
    same_low = packed_same 4 (word_at f r) (word_at f s) (λ i. small _) (λ i. small _) low

    same_high : (i : ℕ) → i < 4 → word_at f (r + 8) i ≡ word_at f (s + 8) i
    same_high = packed_same 4 (word_at f (r + 8)) (word_at f (s + 8)) (λ i. small _) (λ i. small _) high

    later : (p i k : ℕ) → i ≡ k + 4 → word_at f p i ≡ word_at f (p + 8) k
    later p i k e = let q : p + 2 * i ≡ p + 8 + 2 * k = omega arith in ap (u16_at f) q

    same_word : (i : ℕ) → i < 8 → word_at f r i ≡ word_at f s i
    same_word i l =
        elim (dec_le 4 i) [
          | yes h ↦ go i (i - 4) (omega arith) (omega arith)
          | no h ↦ same_low i (omega arith)
        ]
      where
        go : (i k : ℕ) → i ≡ k + 4 → k < 4 → word_at f r i ≡ word_at f s i
        go i k e h = later r i k e ∙ same_high k h ∙ sym (later s i k e)

    same_slot : (i : ℕ) → i < 7 → (row_at f r).slot i ≡ (row_at f s).slot i
    same_slot i l =
        let a : r + 2 + 2 * i ≡ r + 2 * suc i = omega arith in
        let b : s + 2 * suc i ≡ s + 2 + 2 * i = omega arith in
        ap (u16_at f) a ∙ same_word (suc i) (omega arith) ∙ ap (u16_at f) b

    pub same_rows : Alike (row_at f r) (row_at f s)
    same_rows = record { number = first r ∙ same_word 0 (omega arith) ∙ sym (first s); slot = same_slot }
