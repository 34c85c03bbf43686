-- The laws of a loop that adds, of one that takes the least, and of products that agree.
use Prim.Native.Nat.{ℕ, zero, suc, ◌+◌, ◌*◌, ◌≤◌, ◌<◌, min}
use native.Mathlib.Omega.{arith}
use native.Mathlib.Numerals.{add-one}
use native.Mathlib.Nat.{mul-suc}
use mathlib.Core.Path.{◌≡◌, refl, ◌∙◌}
use Rattle.paper.specs.Lists.{sum_to, product_to, lowest_to}

-- a loop that adds numbers of at most b has come to j with x
pub record Added (g : ℕ → ℕ) (b n x j : ℕ) : Type 0 where
  pub within : j ≤ n
  pub sum : x ≡ sum_to g j
  pub small : x ≤ b * j

module _ (g : ℕ → ℕ) (b n : ℕ) where
  pub added_start : Added g b n 0 0
  unfolding sum_to
  added_start = record { within = omega arith; sum = refl; small = omega arith }

  pub added_more : (x j y : ℕ) → Added g b n x j → j < n → y ≡ g j → y ≤ b → Added g b n (x + y) (j + 1)
  unfolding sum_to
  added_more x j y w h e l =
      record {
        within = omega arith;
        sum = rw add-one (omega (arith, w.sum, e));
        small = rw (add-one, mul-suc) (omega (arith, w.small));
      }

  pub added_end : (x j : ℕ) → Added g b n x j → n ≤ j → (x ≡ sum_to g n) × (x ≤ b * n)
  added_end x j w h =
      let z : n ≡ j = omega (arith, w.within) in
      (rw z w.sum, rw z w.small)

-- a loop that takes the least has come to j with x
pub record Lowest (g : ℕ → ℕ) (a n x j : ℕ) : Type 0 where
  pub within : j ≤ n
  pub is : x ≡ lowest_to g a j
  pub small : x ≤ a

module _ (g : ℕ → ℕ) (a n : ℕ) where
  pub lowest_start : Lowest g a n a 0
  unfolding lowest_to
  lowest_start = record { within = omega arith; is = refl; small = omega arith }

  pub lowest_more : (x j y r : ℕ) → Lowest g a n x j → j < n → y ≡ g j → r ≡ min x y → Lowest g a n r (j + 1)
  unfolding lowest_to
  lowest_more x j y r w h e t =
      record { within = omega arith; is = rw add-one (t ∙ rw (w.is, e) refl); small = omega (arith, w.small) }

  pub lowest_end : (x j : ℕ) → Lowest g a n x j → n ≤ j → (x ≡ lowest_to g a n) × (x ≤ a)
  lowest_end x j w h =
      let z : n ≡ j = omega (arith, w.within) in
      (rw z w.is, w.small)

pub product_same : (g h : ℕ → ℕ) (n : ℕ) → ((j : ℕ) → j < n → g j ≡ h j) → product_to g n ≡ product_to h n
unfolding product_to
product_same g h zero e = refl
product_same g h (suc n) e = rw (product_same g h n (λ j l. e j (omega arith)), e n (omega arith)) refl
