-- The bits of a set, line by line: the line that NMRU takes at a miss, and the bits after an access.
use Prim.Native.Nat.{ℕ, zero, suc, ◌+◌, ◌-◌, ◌/◌, ◌%◌, ◌^◌, ◌<◌, ◌≤◌}
use mathlib.Core.Path.{◌≡◌, refl, ap, sym, ◌∙◌}
use mathlib.Core.Logic.{◌≢◌}
use native.Mathlib.Nat.{div-one, div_self, div-eq_of_lt, pow-suc, mod-eq_of_lt}
use native.Mathlib.Decide.{ℕ_discrete, dec_lt}
use native.Mathlib.Omega.{arith}
use borrow.Author.Tests.{eq-eqb, ne_eqb, eqb-true, eqb-false}
use lib.Bits.{bit_or, or_zero_r, or_shr, or_mod, or_lt}
use lib.Pow.{shr-shr, pow_pos, pow-lt, pow_mono}
use Rattle.paper.specs.Machines.{bit_at, victim, marked}
use Rattle.paper.proofs.Least.{least_before, least_at, least_is}

pub bit_zero : (m : ℕ) → bit_at m 0 ≡ m % 2
unfolding bit_at
bit_zero m = ap (λ (n : ℕ). n % 2) (div-one m)

pub bit_suc : (m i : ℕ) → bit_at m (suc i) ≡ bit_at (m / 2) i
unfolding bit_at
bit_suc m i =
    let e : suc i ≡ 1 + i = omega arith in
    ap (λ (n : ℕ). m / 2 ^ n % 2) e ∙ ap (λ (n : ℕ). n % 2) (sym (shr-shr m 1 i))

pub bit_le : (m i : ℕ) → bit_at m i ≤ 1
unfolding bit_at
bit_le m i = omega arith

pub bit_none : (i : ℕ) → bit_at 0 i ≡ 0
unfolding bit_at
bit_none i = ap (λ (n : ℕ). n % 2) (div-eq_of_lt (pow_pos i))

-- 2 ^ j has the bit of line j alone
pub bit_alone : (i j : ℕ) → i ≢ j → bit_at (2 ^ j) i ≡ 0
bit_alone zero zero n = absurd (n refl)
bit_alone zero (suc j) n = bit_zero (2 ^ suc j) ∙ omega (arith, pow-suc 2 j)
bit_alone (suc i) zero n = bit_suc 1 i ∙ unfold bit_at in ap (λ (n : ℕ). n % 2) (div-eq_of_lt (pow_pos i))
bit_alone (suc i) (suc j) n =
    let e : 2 ^ suc j / 2 ≡ 2 ^ j = omega (arith, pow-suc 2 j) in
    bit_suc (2 ^ suc j) i ∙ rw e (bit_alone i j (omega arith))

bit_own : (j : ℕ) → bit_at (2 ^ j) j ≡ 1
unfolding bit_at
bit_own j = ap (λ (n : ℕ). n % 2) (div_self (pow_pos j))

pub bit_or_lem : (a b i : ℕ) → bit_at (bit_or a b) i ≡ bit_or (bit_at a i) (bit_at b i)
unfolding bit_at
bit_or_lem a b i = ap (λ (n : ℕ). n % 2) (or_shr a b i) ∙ or_mod (a / 2 ^ i) (b / 2 ^ i) 1

pub or_one : (a : ℕ) → a ≤ 1 → bit_or a 1 ≡ 1
or_one zero h = refl
or_one (suc a) h = let e : a ≡ 0 = omega arith in rw e

-- "The accessed line's bit becomes 1"
or_own : (m j : ℕ) → bit_at (bit_or m (2 ^ j)) j ≡ 1
or_own m j = bit_or_lem m (2 ^ j) j ∙ rw (bit_own j) (or_one (bit_at m j) (bit_le m j))

or_rest : (m i j : ℕ) → i ≢ j → bit_at (bit_or m (2 ^ j)) i ≡ bit_at m i
or_rest m i j n = bit_or_lem m (2 ^ j) i ∙ rw (bit_alone i j n) (or_zero_r (bit_at m i))

-- the low k bits are 1 exactly where the number is at least that of k bits
pub all_ones : (k m : ℕ) → ((i : ℕ) → i < k → bit_at m i ≡ 1) → 2 ^ k ≤ suc m
all_ones zero m h = omega arith
all_ones (suc k) m h =
    omega (arith, pow-suc 2 k, sym (bit_zero m) ∙ h 0 (omega arith), all_ones k (m / 2) (λ i l. sym (bit_suc m i) ∙ h (suc i) (omega arith)))

pub full_ones : (k m i : ℕ) → suc m ≡ 2 ^ k → i < k → bit_at m i ≡ 1
full_ones zero m i h l = absurd (omega arith)
full_ones (suc k) m zero h l = bit_zero m ∙ omega (arith, pow-suc 2 k)
full_ones (suc k) m (suc i) h l = bit_suc m i ∙ full_ones k (m / 2) i (omega (arith, pow-suc 2 k)) (omega arith)

-- "the lowest line whose bit is 0": all lines before it have the bit 1, and where not all bits are 1 it is a line and has the bit 0
module _ (k m : ℕ) where
  pub victim_ones : (i : ℕ) → i < victim k m → bit_at m i ≡ 1
  unfolding victim
  victim_ones i h = omega (arith, bit_le m i, eqb-false (bit_at m i) 0 (least_before _ k i h))

  module _ (few : m < 2 ^ k - 1) where
    pub victim_low : victim k m < k
    victim_low =
        elim (dec_lt (victim k m) k) [ yes l ↦ l | no l ↦ absurd (omega (arith, all_ones k m (λ i h. victim_ones i (omega arith)))) ]

    pub victim_zero : bit_at m (victim k m) ≡ 0
    victim_zero = eqb-true (bit_at m (victim k m)) 0 (unfold victim in least_at _ k victim_low)

-- and it is the only such line
pub victim_is : (k m j : ℕ) → j < k → bit_at m j ≡ 0 → ((i : ℕ) → i < j → bit_at m i ≡ 1) → victim k m ≡ j
unfolding victim
victim_is k m j l z o =
    least_is _ k
    (record {
      at = j;
      below = l;
      none = λ i h. ne_eqb (bit_at m i) 0 (omega (arith, o i h));
      holds = eq-eqb (bit_at m j) 0 z;
    })

-- The bits n after an access of line j, where they were m before. "if then all k bits are 1, all the others become 0"
pub data Rest (k m j n : ℕ) : Type 0 where
  same : (i : ℕ) → i < k → i ≢ j → bit_at m i ≡ 0 → ((i : ℕ) → i ≢ j → bit_at n i ≡ bit_at m i) → Rest k m j n
  flipped : ((i : ℕ) → i < k → i ≢ j → bit_at m i ≡ 1) → ((i : ℕ) → i ≢ j → bit_at n i ≡ 0) → Rest k m j n

module _ (k m j : ℕ) (low : j < k) (few : m < 2 ^ k) where
  or_few : bit_or m (2 ^ j) < 2 ^ k
  or_few = or_lt k m (2 ^ j) few (pow-lt low)

  -- "The accessed line's bit becomes 1"
  pub marked_own : bit_at (marked k m j) j ≡ 1
  unfolding marked
  marked_own =
      elim (ℕ_discrete (bit_or m (2 ^ j) % 2 ^ k) (2 ^ k - 1)) [
        | yes e ↦ rw (eq-eqb (bit_or m (2 ^ j) % 2 ^ k)) (bit_own j)
        | no e ↦ rw (ne_eqb (bit_or m (2 ^ j) % 2 ^ k)) (or_own m j)
      ]

  pub marked_rest : Rest k m j (marked k m j)
  unfolding marked
  marked_rest =
      let w = bit_or m (2 ^ j) in
      let z : w % 2 ^ k ≡ w = mod-eq_of_lt or_few in
      elim (ℕ_discrete (w % 2 ^ k) (2 ^ k - 1)) [
        | yes e ↦
            rw (eq-eqb (w % 2 ^ k))
            (flipped (λ i l n. sym (or_rest m i j n) ∙ full_ones k w i (omega (arith, pow_pos k)) l) (λ i n. bit_alone i j n))
        | no e ↦
            let free = victim_zero k w (omega (arith, or_few)) in
            let other : victim k w ≢ j = λ p. omega (arith, or_own m j, ap (bit_at w) p) in
            rw (ne_eqb (w % 2 ^ k))
            (same (victim k w) (victim_low k w (omega (arith, or_few))) other (sym (or_rest m (victim k w) j other) ∙ free) (λ i n. or_rest m i j n))
      ]

  pub marked_few : 2 ≤ k → marked k m j < 2 ^ k - 1
  unfolding marked
  marked_few h =
      let w = bit_or m (2 ^ j) in
      let z : w % 2 ^ k ≡ w = mod-eq_of_lt or_few in
      elim (ℕ_discrete (w % 2 ^ k) (2 ^ k - 1)) [
        | yes e ↦
            let p : suc (k - 1) ≡ k = omega arith in
            rw (eq-eqb (w % 2 ^ k))
            (omega (arith, ap (λ (n : ℕ). 2 ^ n) p, pow-suc 2 (k - 1), pow_mono {i = j} {j = k - 1} (omega arith), pow_mono {i = 1} {j = k - 1} (omega arith)))
        | no e ↦ rw (ne_eqb (w % 2 ^ k)) (omega (arith, or_few))
      ]

-- "for NMRU the bits from k on are 0 and at least one of the low k is 0", as one test
pub few_bits : (k m i : ℕ) → m < 2 ^ k → i < k → bit_at m i ≡ 0 → m < 2 ^ k - 1
few_bits k m i h l e =
    elim (ℕ_discrete (suc m) (2 ^ k)) [ yes p ↦ absurd (omega (arith, full_ones k m i p l)) | no p ↦ omega arith ]
