-- The tree's tables: what a miss makes of the bits, and what an access of a line turns. Each is one table for 2, 4 and 8 ways.
use Rattle.std.specs.Prelude.{ℕ, suc, ◌+◌, ◌-◌, ◌*◌, ◌^◌, cond, List, ltb}
use Rattle.paper.specs.declared.SetState.{SetState}
use Rattle.paper.specs.declared.Line.{Line}
use Rattle.paper.specs.Lists.{least, table}
use Rattle.paper.specs.Machines.{hits}
use Rattle.paper.specs.Policies.{tree_ways}
use Rattle.paper.specs.Trees.{tree_victim, turned_above, turned, tree_line}

-- A miss: the value of the bit of the line that it takes, and 256 times the bits after it.
unfoldable pub at_miss : ℕ → ℕ → ℕ
at_miss k bits = 2 ^ tree_victim k bits + 256 * turned k bits (tree_victim k bits)

-- The bits of k ways are below 2^(k-1), and stand at 2^(k-1) plus themselves: entry x is one of as many ways as x has digits.
unfoldable pub ways_at : ℕ → ℕ
ways_at x = least (λ k. ltb x (2 ^ k)) 9

unfoldable pub miss_entry : ℕ → ℕ
miss_entry x = cond (tree_ways (ways_at x)) (at_miss (ways_at x) (x - 2 ^ (ways_at x - 1))) 0

unfoldable pub tree_misses : List ℕ
tree_misses = table miss_entry 256

-- So many bits stand above number i.
unfoldable pub depth : ℕ → ℕ
depth i = least (λ d. ltb (suc i) (2 ^ suc d)) 4

-- What an access of the line with number i makes of the bits.
unfoldable pub turn_entry : ℕ → ℕ → ℕ
turn_entry bits i = turned_above (depth i) bits i

-- Of all seven bits 1, and of all 0: the bits on the line's path are the same in both, and the others as they were.
unfoldable pub turned_ones : List ℕ
turned_ones = table (turn_entry 127) 15

unfoldable pub turned_zeros : List ℕ
turned_zeros = table (turn_entry 0) 15

-- The line that an access goes to, by its bit.
unfoldable pub tree_line_for : ℕ → SetState → ℕ → Line
tree_line_for k s b = record { bit = 2 ^ tree_line k s b; hit = hits k s.lines b }
