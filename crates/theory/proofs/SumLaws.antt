-- Sums over the numbers below n.
use Prim.Native.Nat.{ℕ, zero, suc, ◌+◌, ◌≤◌, ◌<◌}
use native.Mathlib.Omega.{arith}
use native.Mathlib.Decide.{ℕ_discrete}
use mathlib.Core.Path.{◌≡◌, refl, ap}
use mathlib.Core.Bool.{Bool, true, false, cond}
use Rattle.paper.specs.Lists.{sum_to}

pub sum_le : (f g : ℕ → ℕ) (n : ℕ) → ((j : ℕ) → j < n → f j ≤ g j) → sum_to f n ≤ sum_to g n
unfolding sum_to
sum_le f g zero h = omega arith
sum_le f g (suc n) h = omega (arith, sum_le f g n (λ j l. h j (omega arith)), h n (omega arith))

pub sum_same : (f g : ℕ → ℕ) (n : ℕ) → ((j : ℕ) → j < n → f j ≡ g j) → sum_to f n ≡ sum_to g n
sum_same f g n h = omega (arith, sum_le f g n (λ j l. omega (arith, h j l)), sum_le g f n (λ j l. omega (arith, h j l)))

pub sum_two : (f g h : ℕ → ℕ) (n : ℕ) → ((j : ℕ) → j < n → f j + g j ≤ h j) → sum_to f n + sum_to g n ≤ sum_to h n
unfolding sum_to
sum_two f g h zero l = omega arith
sum_two f g h (suc n) l = omega (arith, sum_two f g h n (λ j q. l j (omega arith)), l n (omega arith))

pub sum_at : (f : ℕ → ℕ) (n i : ℕ) → i < n → f i ≤ sum_to f n
unfolding sum_to
sum_at f zero i h = absurd (omega arith)
sum_at f (suc n) i h = elim (ℕ_discrete i n) [ yes p ↦ omega (arith, ap f p) | no q ↦ omega (arith, sum_at f n i (omega arith)) ]

pub cond_le : (t : Bool) {a b : ℕ} → (t ≡ true → a ≤ b) → cond t a 0 ≤ cond t b 0
cond_le true h = h refl
cond_le false h = omega arith

-- the terms that pass a test
pub sum_add :
    (on : ℕ → Bool) (f g : ℕ → ℕ) (n : ℕ)
    → sum_to (λ j. cond (on j) (f j + g j) 0) n ≡ sum_to (λ j. cond (on j) (f j) 0) n + sum_to (λ j. cond (on j) (g j) 0) n
unfolding sum_to
sum_add on f g zero = refl
sum_add on f g (suc n) = omega (arith, sum_add on f g n, one (on n))
  where
    one : (t : Bool) → cond t (f n + g n) 0 ≡ cond t (f n) 0 + cond t (g n) 0
    one true = refl
    one false = refl
