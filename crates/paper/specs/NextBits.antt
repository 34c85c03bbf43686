-- "For eight ways the NMRU bits come from a table over all 256 patterns and eight lines (2,048 entries), pattern p and line j at entry 8p + j".
use Rattle.std.specs.Prelude.{ℕ, ◌/◌, ◌%◌, List}
use Rattle.paper.specs.Lists.{table}
use Rattle.paper.specs.Machines.{marked}

unfoldable pub next_bits : List ℕ
next_bits = table (λ i. marked 8 (i / 8) (i % 8)) 2048
