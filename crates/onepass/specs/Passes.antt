-- What one pass for all ways gives.
use Rattle.std.specs.Prelude.{ℕ, suc, ◌<◌, ◌≡◌, List, get_or}
use Rattle.lines.specs.Lines.{weight_of}
use Rattle.paper.specs.Lists.{table}
use Rattle.paper.specs.Machines.{empty_set}
use Rattle.paper.specs.AllWays.{misses_with}
use Rattle.inclusion.specs.FoundLines.{found_at}

-- How many accesses find their block in each line of eight ways, by the line's weight.
pub record Found (sets : ℕ) (blocks found : List ℕ) : Type 0 where
  pub is : (j : ℕ) → j < 8 → get_or found (weight_of j) 0 ≡ found_at sets (λ q. empty_set) blocks j

-- The misses with one way to eight.
abbrev pub eight_counts : ℕ → List ℕ → List ℕ
eight_counts sets blocks = table (λ j. misses_with sets blocks (suc j)) 8
