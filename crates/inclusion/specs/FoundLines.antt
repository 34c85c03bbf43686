-- "keep for each set the order of last use and count each access by how many other blocks of its set came since its last one": in the order of last use that is the block's line.
use Rattle.std.specs.Prelude.{ℕ, ◌+◌, ◌%◌, List, [], ◌∷◌, eqb}
use Rattle.paper.specs.Lists.{bit}
use Rattle.paper.specs.Machines.{line_of}
use Rattle.paper.specs.Policies.{lru_policy}
use Rattle.paper.specs.Traces.{Content, after}

-- The accesses that find their block in line j of eight ways.
unfoldable pub found_at : ℕ → Content → List ℕ → ℕ → ℕ
found_at sets c [] j = 0
found_at sets c (b ∷ bs) j = bit (eqb (line_of (c (b % sets)).lines b) j) + found_at sets (after lru_policy 8 sets c b) bs j
