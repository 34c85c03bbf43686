-- What is made of eight lines by value, line by line: the sum that tells a block's line, and the lines after a shift or with one of them replaced.
use Rattle.std.specs.Prelude.{ℕ, ◌+◌, ◌-◌, ◌^◌, cond, List, [], ◌∷◌, eqb, ltb, get_or}

-- Eight values by their rule, and their sum.
unfoldable pub eight : (ℕ → ℕ) → List ℕ
eight g = g 0 ∷ g 1 ∷ g 2 ∷ g 3 ∷ g 4 ∷ g 5 ∷ g 6 ∷ g 7 ∷ []

unfoldable pub eight_sum : (ℕ → ℕ) → ℕ
eight_sum g = g 0 + (g 1 + (g 2 + (g 3 + (g 4 + (g 5 + (g 6 + g 7))))))

-- A line's weight: 255 less the value of its bit. It fits a byte, and falls from line to line.
unfoldable pub weight_of : ℕ → ℕ
weight_of j = 255 - 2 ^ j

-- The sum of the weights of the lines that hold b. Where b stands in one line alone it is that line's.
unfoldable pub weighed : List ℕ → ℕ → ℕ
weighed lines b = eight_sum (λ i. cond (eqb (get_or lines i 0) b) (weight_of i) 0)

-- A line that moves is told by 0, one that stays by 65,535. The lines after the one with weight w stay too.
unfoldable pub kept_after : ℕ → List ℕ → List ℕ
kept_after w kept = eight (λ i. cond (ltb (weight_of i) w) 65535 (get_or kept i 0))

-- Each line takes what stood in the one before it, or stays.
unfoldable pub moved_by : List ℕ → List ℕ → ℕ → List ℕ
moved_by kept lines b = eight (λ i. cond (eqb (get_or kept i 0) 0) (get_or (b ∷ lines) i 0) (get_or lines i 0))

-- b comes to the line whose bit has this value.
unfoldable pub replaced_by : List ℕ → ℕ → ℕ → List ℕ
replaced_by lines m b = eight (λ i. cond (eqb m (2 ^ i)) b (get_or lines i 0))
