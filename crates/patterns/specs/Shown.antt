-- Which table a line is of: the tree's, or NMRU's for eight ways.
use Rattle.std.specs.Prelude.{ℕ, ◌-◌, ◌^◌, ◌≤◌, ◌<◌, ◌≡◌, Bool, true, cond, List, []}
use Rattle.paper.specs.Machines.{marked, offered}
use Rattle.paper.specs.Patterns.{missed, pattern_line}
use Rattle.paper.specs.Policies.{tree_policy}
use Rattle.paper.specs.Trees.{turned}

-- n patterns: at most a byte has, and those of the tree's k - 1 bits
pub record Shape (tree : Bool) (k n : ℕ) : Type 0 where
  pub few : k ≤ 8
  pub byte : n ≤ 256
  pub offers : tree ≡ true → offered tree_policy k ≡ true
  pub bits : tree ≡ true → n ≤ 2 ^ (k - 1)

-- one of them
pub record Shown (tree : Bool) (k p : ℕ) : Type 0 where
  pub n : ℕ
  pub below : p < n
  pub shape : Shape tree k n

abbrev pub after_of : Bool → ℕ → ℕ → ℕ → ℕ
after_of tree k p = cond tree (turned k p) (marked 8 p)

abbrev pub miss_of : Bool → ℕ → ℕ → List ℕ
miss_of tree k p = cond tree (missed k p) []

abbrev pub line_of : Bool → ℕ → ℕ → ℕ → List ℕ
line_of tree k w p = pattern_line k w (miss_of tree k p) (after_of tree k p) p
