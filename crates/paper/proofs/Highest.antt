-- The laws of the greatest value.
use Prim.Native.Nat.{ℕ, zero, suc, ◌≤◌, ◌<◌, min}
use native.Mathlib.Omega.{arith}
use native.Mathlib.Decide.{dec_le, ℕ_discrete}
use mathlib.Core.Path.{◌≡◌, refl, ap}
use mathlib.Core.Logic.{dite}
use Rattle.paper.specs.Lists.{highest_to}

-- no value is greater than the greatest
pub highest_at : (g : ℕ → ℕ) (n i : ℕ) → i < n → g i ≤ highest_to g n
unfolding highest_to
highest_at g zero i h = absurd (omega arith)
highest_at g (suc n) i h =
    elim (ℕ_discrete i n) [ yes p ↦ omega (arith, ap g p) | no q ↦ omega (arith, highest_at g n i (omega arith)) ]

-- and it is one of them, where it is not 0
pub highest_is : (g : ℕ → ℕ) (n : ℕ) → 1 ≤ highest_to g n → (i : ℕ) × (i < n) × (g i ≡ highest_to g n)
unfolding highest_to
highest_is g zero h = absurd (omega arith)
highest_is g (suc n) h =
    dite (dec_le (highest_to g n) (g n))
    (λ l. (n, omega arith, omega arith))
    (λ l. let (i, b, z) = highest_is g n (omega arith) in (i, omega arith, omega arith))

-- values that are each cut at k
pub highest_cut : (k : ℕ) (f g : ℕ → ℕ) → ((i : ℕ) → f i ≡ min (g i) k) → (n : ℕ) → highest_to f n ≡ min (highest_to g n) k
unfolding highest_to
highest_cut k f g h zero = omega arith
highest_cut k f g h (suc n) = omega (arith, h n, highest_cut k f g h n)

-- values that agree
pub highest_same : (f g : ℕ → ℕ) (n : ℕ) → ((i : ℕ) → i < n → f i ≡ g i) → highest_to f n ≡ highest_to g n
unfolding highest_to
highest_same f g zero h = refl
highest_same f g (suc n) h = omega (arith, highest_same f g n (λ i l. h i (omega arith)), h n (omega arith))

-- values of 0 from k on
pub highest_past : (g : ℕ → ℕ) (k n : ℕ) → k ≤ n → ((i : ℕ) → k ≤ i → i < n → g i ≡ 0) → highest_to g n ≡ highest_to g k
unfolding highest_to
highest_past g k zero l h = let z : k ≡ 0 = omega arith in rw z refl
highest_past g k (suc n) l h =
    elim (ℕ_discrete k (suc n)) [
      | yes p ↦ rw p refl
      | no q ↦ omega (arith, highest_past g k n (omega arith) (λ i a b. h i a (omega arith)), h n (omega arith) (omega arith))
    ]
