-- What an access of a line turns, by two masks: what it makes of bits that are all 1, and of bits that are all 0.
use Prim.Native.Nat.{ℕ, zero, suc, ◌/◌, ◌%◌, ◌^◌, ◌<◌, ◌≤◌}
use native.Mathlib.Nat.{pow-suc}
use native.Mathlib.Decide.{ℕ_discrete}
use native.Mathlib.Omega.{arith}
use mathlib.Core.Path.{◌≡◌, refl, sym, ap, ap₂, ◌∙◌}
use lib.Bits.{bit_or, bit_and, or_lt, and_le_l, and_le_r, and_shr, and_mod, or_zero_r}
use Rattle.paper.specs.Steps.{bit_at}
use Rattle.paper.specs.Trees.{parent, turned_from, turned_above}
use Rattle.paper.proofs.Bits.{bit_zero, bit_suc, bit_le, bit_none, bit_or_lem, or_one, full_ones}
use Rattle.paper.proofs.TreeLaws.{with_own, with_rest}

-- numbers of n bits are known by their bits
bits_same : (n a b : ℕ) → a < 2 ^ n → b < 2 ^ n → ((u : ℕ) → u < n → bit_at a u ≡ bit_at b u) → a ≡ b
bits_same zero a b f g h = omega arith
bits_same (suc n) a b f g h =
    let low : a % 2 ≡ b % 2 = sym (bit_zero a) ∙ h 0 (omega arith) ∙ bit_zero b in
    let rest : a / 2 ≡ b / 2 = bits_same n (a / 2) (b / 2) (omega (arith, pow-suc 2 n)) (omega (arith, pow-suc 2 n)) (λ u l. sym (bit_suc a u) ∙ h (suc u) (omega arith) ∙ bit_suc b u) in
    omega arith

bit_and_lem : (a b i : ℕ) → bit_at (bit_and a b) i ≡ bit_and (bit_at a i) (bit_at b i)
unfolding bit_at
bit_and_lem a b i = ap (λ (n : ℕ). n % 2) (and_shr a b i) ∙ and_mod (a / 2 ^ i) (b / 2 ^ i) 1

-- A bit on the path becomes the same whatever the bits were; another stays as it was.
data Turn (d i u : ℕ) : Type 0 where
  becomes : (v : ℕ) → v ≤ 1 → ((m : ℕ) → bit_at (turned_above d m i) u ≡ v) → Turn d i u
  stays : ((m : ℕ) → bit_at (turned_above d m i) u ≡ bit_at m u) → Turn d i u

one_turn : (d i u : ℕ) → ((m : ℕ) → bit_at (turned_above d m (parent i)) u ≡ bit_at m u) → Turn (suc d) i u
unfolding turned_above turned_from
one_turn d i u h =
    elim (ℕ_discrete u (parent i)) [
      | yes e ↦ becomes (i % 2) (omega arith) (λ m. h (turned_from m i) ∙ ap (bit_at (turned_from m i)) e ∙ with_own m (parent i) (i % 2) (omega arith))
      | no n ↦ stays (λ m. h (turned_from m i) ∙ with_rest m (parent i) (i % 2) u (omega arith) n)
    ]

turn_of_lem : (d i u : ℕ) → Turn d i u
unfolding turned_above
turn_of_lem zero i u = stays (λ m. refl)
turn_of_lem (suc d) i u =
    elim (turn_of_lem d (parent i) u) [
      | becomes v l h ↦ becomes v l (λ m. h (turned_from m i))
      | stays h ↦ one_turn d i u h
    ]

-- one bit by the two masks
and_one : (x : ℕ) → x ≤ 1 → bit_and x 1 ≡ x
and_one zero h = refl
and_one (suc x) h = let e : x ≡ 0 = omega arith in rw e

masked : (x v : ℕ) → v ≤ 1 → bit_or (bit_and x v) v ≡ v
masked x zero h = or_zero_r (bit_and x 0) ∙ omega (arith, and_le_r x 0)
masked x (suc v) h =
    let e : v ≡ 0 = omega arith in
    rw e (or_one (bit_and x 1) (and_le_r x 1))

bit_masked : (d i m u : ℕ) → u < 7 → bit_at (turned_above d m i) u ≡ bit_at (bit_or (bit_and m (turned_above d 127 i)) (turned_above d 0 i)) u
bit_masked d i m u l =
    let p = bit_or_lem (bit_and m (turned_above d 127 i)) (turned_above d 0 i) u in
    let q = bit_and_lem m (turned_above d 127 i) u in
    elim (turn_of_lem d i u) [
      | becomes v h f ↦ f m ∙ sym (p ∙ ap₂ bit_or (q ∙ ap (bit_and (bit_at m u)) (f 127)) (f 0) ∙ masked (bit_at m u) v h)
      | stays f ↦
          f m
          ∙ sym
          (p
          ∙ ap₂ bit_or (q ∙ ap (bit_and (bit_at m u)) (f 127 ∙ full_ones 7 127 u refl l) ∙ and_one (bit_at m u) (bit_le m u)) (f 0 ∙ bit_none u)
          ∙ or_zero_r (bit_at m u))
    ]

pub turned_masked :
    (d i m : ℕ) → m < 2 ^ 7 → turned_above d m i < 2 ^ 7 → turned_above d 0 i < 2 ^ 7
    → bit_or (bit_and m (turned_above d 127 i)) (turned_above d 0 i) ≡ turned_above d m i
turned_masked d i m f g h =
    let a : bit_and m (turned_above d 127 i) < 2 ^ 7 = omega (arith, and_le_l m (turned_above d 127 i)) in
    bits_same 7 _ _ (or_lt 7 _ _ a h) g (λ u l. sym (bit_masked d i m u l))
