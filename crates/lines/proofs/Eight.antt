-- Eight values, each by its rule, are the eight of the rule, and so is their sum.
use Prim.Native.Nat.{ℕ, ◌+◌}
use mathlib.Core.Path.{◌≡◌}
use mathlib.Core.List.{[], ◌∷◌}
use Rattle.lines.specs.Lines.{eight, eight_sum}

module _ (g : ℕ → ℕ) {x₀ x₁ x₂ x₃ x₄ x₅ x₆ x₇ : ℕ} (e₀ : x₀ ≡ g 0) (e₁ : x₁ ≡ g 1) (e₂ : x₂ ≡ g 2) (e₃ : x₃ ≡ g 3) (e₄ : x₄ ≡ g 4) (e₅ : x₅ ≡ g 5) (e₆ : x₆ ≡ g 6) (e₇ : x₇ ≡ g 7) where
  pub made_of : x₀ ∷ x₁ ∷ x₂ ∷ x₃ ∷ x₄ ∷ x₅ ∷ x₆ ∷ x₇ ∷ [] ≡ eight g
  unfolding eight
  made_of = rw (e₀, e₁, e₂, e₃, e₄, e₅, e₆, e₇)

  pub sum_of : x₀ + (x₁ + (x₂ + (x₃ + (x₄ + (x₅ + (x₆ + x₇)))))) ≡ eight_sum g
  unfolding eight_sum
  sum_of = rw (e₀, e₁, e₂, e₃, e₄, e₅, e₆, e₇)
