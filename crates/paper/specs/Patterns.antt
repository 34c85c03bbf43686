-- "pattern p and line j at entry 8p + j, which the bench prints beside the board manual", and the tree's next bits "to lay beside the board manual" (02, item 9): one line a pattern, the pattern in binary and then the bits after an access of each line, by the rule.
use Rattle.std.specs.Prelude.{ℕ, zero, suc, ◌-◌, ◌^◌, List, [], ◌++◌}
use Rattle.paper.specs.Machines.{bit_at, marked}
use Rattle.paper.specs.Listings.{bytes, digit}
use Rattle.paper.specs.Trees.{tree_victim, turned}

-- the low n bits, the highest first; bit i has the value 2^i
unfoldable pub binary : ℕ → ℕ → List ℕ
binary bits zero = []
binary bits (suc n) = digit (bit_at bits n) ++ binary bits n

-- the bits after an access to line j, to the line after it, and so on, n of them, each by its low w bits
unfoldable pub next_from : (ℕ → ℕ) → ℕ → ℕ → ℕ → List ℕ
next_from after w j zero = []
next_from after w j (suc n) = bytes " " ++ (binary (after j) w ++ next_from after w (suc j) n)

-- the line of a pattern of w bits with k ways: what a miss takes stands before the next bits
unfoldable pub pattern_line : ℕ → ℕ → List ℕ → (ℕ → ℕ) → ℕ → List ℕ
pattern_line k w miss after p = binary p w ++ (miss ++ (next_from after w 0 k ++ bytes "\n"))

-- the lines of n patterns, from p on
unfoldable pub patterns_from : (ℕ → List ℕ) → ℕ → ℕ → List ℕ
patterns_from line p zero = []
patterns_from line p (suc n) = line p ++ patterns_from line (suc p) n

-- "over all 256 patterns and eight lines"; an NMRU miss may take an empty line, so the bits alone do not say which
abbrev pub patterns : List ℕ
patterns = patterns_from (λ p. pattern_line 8 8 [] (marked 8 p) p) 0 256

-- "A miss follows the bits and takes that line, empty or not."
unfoldable pub missed : ℕ → ℕ → List ℕ
missed k p = bytes " " ++ digit (tree_victim k p)

-- the tree's bits with k ways are k-1
unfoldable pub tree_table : ℕ → List ℕ
tree_table k = patterns_from (λ p. pattern_line k (k - 1) (missed k p) (turned k p) p) 0 (2 ^ (k - 1))

-- "with 2, 4 or 8 ways"
abbrev pub tree_patterns : List ℕ
tree_patterns = tree_table 2 ++ (tree_table 4 ++ tree_table 8)
