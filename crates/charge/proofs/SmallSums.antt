-- The laws of sums that the charge needs besides those of a loop that adds.
use Prim.Native.Nat.{ℕ, zero, suc, ◌+◌, ◌-◌, ◌*◌, ◌≤◌, ◌<◌}
use native.Mathlib.Omega.{arith}
use native.Mathlib.Nat.{mul-suc}
use mathlib.Core.Path.{◌≡◌, refl, sym, ◌∙◌, ap, ap₂}
use Rattle.paper.specs.Lists.{sum_to}

pub sum_same : (F G : ℕ → ℕ) (n : ℕ) → ((j : ℕ) → j < n → F j ≡ G j) → sum_to F n ≡ sum_to G n
unfolding sum_to
sum_same F G zero h = refl
sum_same F G (suc n) h = ap₂ (λ (x y : ℕ). x + y) (sum_same F G n (λ j l. h j (omega arith))) (h n (omega arith))

-- two sums in one
pub sum_both : (F G H : ℕ → ℕ) (n : ℕ) → ((j : ℕ) → j < n → F j ≡ G j + H j) → sum_to F n ≡ sum_to G n + sum_to H n
unfolding sum_to
sum_both F G H zero h = refl
sum_both F G H (suc n) h = omega (arith, sum_both F G H n (λ j l. h j (omega arith)), h n (omega arith))

pub sum_low : (F : ℕ → ℕ) (b n : ℕ) → ((j : ℕ) → j < n → F j ≤ b) → sum_to F n ≤ b * n
unfolding sum_to
sum_low F b zero h = omega arith
sum_low F b (suc n) h = rw mul-suc (omega (arith, sum_low F b n (λ j l. h j (omega arith)), h n (omega arith)))

-- a sum whose first or last parts are 0 may leave them out
module _ (F : ℕ → ℕ) where
  pub sum_none : (a : ℕ) → ((j : ℕ) → j < a → F j ≡ 0) → sum_to F a ≡ 0
  unfolding sum_to
  sum_none zero h = refl
  sum_none (suc a) h = omega (arith, sum_none a (λ j l. h j (omega arith)), h a (omega arith))

  rest : (a m : ℕ) → ((j : ℕ) → a ≤ j → j < a + m → F j ≡ 0) → sum_to F (a + m) ≡ sum_to F a
  unfolding sum_to
  rest a zero h = let z : a + 0 ≡ a = omega arith in ap (sum_to F) z
  rest a (suc m) h =
      let z : a + suc m ≡ suc (a + m) = omega arith in
      ap (sum_to F) z ∙ omega (arith, rest a m (λ j l k. h j l (omega arith)), h (a + m) (omega arith) (omega arith))

  pub sum_rest : (a n : ℕ) → a ≤ n → ((j : ℕ) → a ≤ j → j < n → F j ≡ 0) → sum_to F n ≡ sum_to F a
  sum_rest a n l h =
      let z : a + (n - a) ≡ n = omega arith in
      ap (sum_to F) (sym z) ∙ rest a (n - a) (λ j k q. h j k (omega arith))
