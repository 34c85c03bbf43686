-- Laws of the bits: the lowest that is 0, and the mark of an access by shift and mask and by the table.
use Prim.Native.Nat.{ℕ, zero, suc, ◌+◌, ◌-◌, ◌*◌, ◌/◌, ◌%◌, ◌^◌, ◌<◌, ◌≤◌, min}
use native.Mathlib.Nat.{pow-suc, mod-eq_of_lt, not-suc-le-zero, le_of_suc-le-suc}
use native.Mathlib.Decide.{ℕ_discrete, dec_lt}
use native.Mathlib.Omega.{arith}
use mathlib.Core.Path.{◌≡◌, refl, sym, ◌∙◌, ap, ap₂}
use mathlib.Core.List.{List}
use lib.ListN.{get_or}
use lib.Pow.{pow-lt, pow_mono, ones_split, high, ones_lt}
use lib.Bits.{bit_or, bit_and, or_lt, and_step, and_zero_r}
use lib.Count.{count_trailing_zeros}
use borrow.Author.Tests.{eq-eqb, ne_eqb}
use Rattle.paper.specs.Machines.{bit_at, victim, marked}
use Rattle.paper.specs.NextBits.{next_bits}
use Rattle.paper.specs.Shifts.{Bit, marked_by}
use Rattle.paper.proofs.TableLaws.{get_d_table}
use Rattle.paper.proofs.Bits.{bit_zero, bit_suc, all_ones, victim_is}

-- half of p's complement in m + 1 bits is the complement of p's half, and its lowest bit is 1 where p's is 0
half_not : (q p : ℕ) → p < q * 2 → (q * 2 - 1 - p) / 2 ≡ q - 1 - p / 2
half_not q p w = omega arith

low_not : (q p : ℕ) → p < q * 2 → (q * 2 - 1 - p) % 2 ≡ 1 - p % 2
low_not q p w = omega arith

module _ (m p : ℕ) (w : p < 2 ^ suc m) where
  not_half : (2 ^ suc m - 1 - p) / 2 ≡ 2 ^ m - 1 - p / 2
  not_half = rw (pow-suc 2 m) (half_not (2 ^ m) p (rw (pow-suc 2 m) at w))

  not_low : (b : ℕ) → p % 2 ≡ b → (2 ^ suc m - 1 - p) % 2 ≡ 1 - b
  not_low b e = rw (pow-suc 2 m) (low_not (2 ^ m) p (rw (pow-suc 2 m) at w) ∙ ap (λ (n : ℕ). 1 - n) e)

  half_less : p / 2 < 2 ^ m
  half_less = omega (arith, pow-suc 2 m)

-- the zeros below the lowest 1 of p's complement are the ones below the lowest 0 of p
zeros : (m p : ℕ) → p < 2 ^ m → let t = count_trailing_zeros m (2 ^ m - 1 - p) in ((i : ℕ) → i < t → bit_at p i ≡ 1) × (t < m → bit_at p t ≡ 0)
unfolding count_trailing_zeros
zeros zero p w = (λ i h. absurd (not-suc-le-zero h), λ h. absurd (not-suc-le-zero h))
zeros (suc m) p w =
    elim (ℕ_discrete (p % 2) 0) [
      | yes e ↦ rw (not_low m p w 0 e) (λ i h. absurd (not-suc-le-zero h), λ h. bit_zero p ∙ e)
      | no n ↦
          let r = zeros m (p / 2) (half_less m p w) in
          rw (not_low m p w 1 (omega arith), not_half m p w) (more n r.0, λ h. bit_suc p _ ∙ r.1 (le_of_suc-le-suc h))
    ]
  where
    more : {t : ℕ} → (p % 2 ≡ 0 → ⊥) → ((i : ℕ) → i < t → bit_at (p / 2) i ≡ 1) → (i : ℕ) → i < suc t → bit_at p i ≡ 1
    more n r zero h = bit_zero p ∙ omega arith
    more n r (suc i) h = bit_suc p i ∙ r i (le_of_suc-le-suc h)

pub victim_zeros : (m k p : ℕ) → k ≤ m → p + 1 < 2 ^ k → count_trailing_zeros m (2 ^ m - 1 - p) ≡ victim k p
victim_zeros m k p h g =
    let t = count_trailing_zeros m (2 ^ m - 1 - p) in
    let z = zeros m p (omega (arith, pow_mono {i = k} {j = m} h)) in
    elim (dec_lt t k) [
      | yes l ↦ sym (victim_is k p t l (z.1 (omega arith)) z.0)
      | no l ↦ absurd (omega (arith, all_ones k p (λ i q. z.0 i (omega arith))))
    ]

-- a number and its complement have no bit in common
and_not : (m p : ℕ) → p < 2 ^ m → bit_and (2 ^ m - 1 - p) p ≡ 0
and_not zero p w = let e : p ≡ 0 = omega arith in rw e (and_zero_r (2 ^ 0 - 1 - 0))
and_not (suc m) p w =
    let f : min (1 - p % 2) (p % 2) ≡ 0 = omega arith in
    and_step (2 ^ suc m - 1 - p) p ∙ rw (not_half m p w, not_low m p w (p % 2) refl, f, and_not m (p / 2) (half_less m p w))

-- the number after an even one has the same half, that after an odd one the next
next_even : (p : ℕ) → p % 2 ≡ 0 → ((p + 1) / 2 ≡ p / 2) × ((p + 1) % 2 ≡ 1)
next_even p e = omega arith

next_odd : (p : ℕ) → (p % 2 ≡ 0 → ⊥) → ((p + 1) / 2 ≡ p / 2 + 1) × ((p + 1) % 2 ≡ 0) × (p % 2 ≡ 1)
next_odd p n = omega arith

half_next : (m p : ℕ) → (p % 2 ≡ 0 → ⊥) → p + 1 < 2 ^ suc m → p / 2 + 1 < 2 ^ m
half_next m p n w = omega (arith, pow-suc 2 m)

doubled : (t : ℕ) → 2 ^ t * 2 + 0 ≡ 2 ^ suc t
doubled t = omega (arith, pow-suc 2 t)

-- the bits that p's complement and p + 1 have in common: the lowest 0 of p
low_bit : (m p : ℕ) → p + 1 < 2 ^ m → bit_and (2 ^ m - 1 - p) (p + 1) ≡ 2 ^ count_trailing_zeros m (2 ^ m - 1 - p)
unfolding count_trailing_zeros
low_bit zero p w = absurd (omega arith)
low_bit (suc m) p w =
    let v : p < 2 ^ suc m = omega arith in
    elim (ℕ_discrete (p % 2) 0) [
      | yes e ↦
          let h = next_even p e in
          and_step (2 ^ suc m - 1 - p) (p + 1) ∙ rw (not_low m p v 0 e, not_half m p v, h.0, h.1, and_not m (p / 2) (half_less m p v))
      | no n ↦
          let h = next_odd p n in
          let t = count_trailing_zeros m (2 ^ m - 1 - p / 2) in
          and_step (2 ^ suc m - 1 - p) (p + 1)
          ∙ rw (not_low m p v 1 h.2, not_half m p v, h.0, h.1, low_bit m (p / 2) (half_next m p n w)) (doubled t)
    ]

pub victim_bit : (m k p : ℕ) → k ≤ m → p + 1 < 2 ^ k → bit_and (2 ^ m - 1 - p) (p + 1) ≡ 2 ^ victim k p
victim_bit m k p h g =
    low_bit m p (omega (arith, pow_mono {i = k} {j = m} h)) ∙ ap (λ (t : ℕ). 2 ^ t) (victim_zeros m k p h g)

-- a bit's place by its value
pub zeros_bit : (m j : ℕ) → j < m → count_trailing_zeros m (2 ^ j) ≡ j
unfolding count_trailing_zeros
zeros_bit zero j h = absurd (not-suc-le-zero h)
zeros_bit (suc m) zero h = refl
zeros_bit (suc m) (suc j) h =
    let f : 2 ^ suc j % 2 ≡ 0 = omega (arith, pow-suc 2 j) in
    let d : 2 ^ suc j / 2 ≡ 2 ^ j = omega (arith, pow-suc 2 j) in
    rw (f, d) (ap suc (zeros_bit m j (le_of_suc-le-suc h)))

-- the low k bits are 1
pub full_is : (k : ℕ) → k ≤ 8 → 255 / 2 ^ (8 - k) ≡ 2 ^ k - 1
full_is k h =
    let e : k + (8 - k) ≡ 8 = omega arith in
    let f : 255 ≡ (2 ^ k - 1) * 2 ^ (8 - k) + (2 ^ (8 - k) - 1) = sym (ap (λ (n : ℕ). 2 ^ n - 1) e) ∙ ones_split k (8 - k) in
    ap (λ (n : ℕ). n / 2 ^ (8 - k)) f ∙ high (2 ^ k - 1) (8 - k) (ones_lt (8 - k))

module _ (k p m : ℕ) (b : Bit k m) (g : p + 1 < 2 ^ k) where
  set_low : bit_or p m < 2 ^ k
  set_low = or_lt k p m (omega arith) (omega (arith, b.is, pow-lt {i = b.at} {j = k} b.low))

  pub mark_full : bit_or p m ≡ 2 ^ k - 1 → m ≡ marked_by k p m
  unfolding marked_by
  mark_full e = rw (mod-eq_of_lt set_low, eq-eqb _ _ e)

  pub mark_more : (bit_or p m ≡ 2 ^ k - 1 → ⊥) → bit_or p m ≡ marked_by k p m
  unfolding marked_by
  mark_more n = rw (mod-eq_of_lt set_low, ne_eqb _ _ n)

-- pattern p and line j at entry 8p + j
pub next_at : (p j : ℕ) → p < 256 → j < 8 → get_or next_bits (8 * p + j) 0 ≡ marked 8 p j
unfolding next_bits
next_at p j h g =
    let q : (8 * p + j) / 8 ≡ p = omega arith in
    let r : (8 * p + j) % 8 ≡ j = omega arith in
    get_d_table (λ i. marked 8 (i / 8) (i % 8)) 2048 (8 * p + j) 0 (omega arith) ∙ ap₂ (marked 8) q r

-- and so in a table that is the rule's
pub at_entry : {t : List ℕ} {p j : ℕ} → t ≡ next_bits → p < 256 → j < 8 → get_or t (8 * p + j) 0 ≡ marked 8 p j
at_entry {t} {p} {j} e h g = ap (λ (l : List ℕ). get_or l (8 * p + j) 0) e ∙ next_at p j (omega (arith, h)) g
