-- A step's parts: which lines stay where they are when a block comes in, and the line that an access goes to with the bits after it.
use Rattle.std.specs.Prelude.{ℕ, ◌-◌, ◌%◌, ◌^◌, ◌<◌, ◌≡◌, cond, List, eqb, ltb}
use Rattle.std.specs.Int.Bits.{bit_or}
use Rattle.lines.specs.Lines.{kept_after}
use Rattle.paper.specs.declared.SetState.{SetState}
use Rattle.paper.specs.declared.Line.{Line}
use Rattle.paper.specs.declared.Shift.{Shift}
use Rattle.paper.specs.Lists.{table}
use Rattle.paper.specs.Machines.{none, hits, nmru_line}

-- The lines below n move, those from n on stay: 0 and 65,535.
unfoldable pub kept_from : ℕ → List ℕ
kept_from n = table (λ i. cond (ltb i n) 0 none) 8

-- m is the value of a bit of the low k.
pub record Bit (k m : ℕ) : Type 0 where
  pub at : ℕ
  pub low : at < k
  pub is : m ≡ 2 ^ at

-- The bits after an access of the line whose bit has the value m.
unfoldable pub marked_by : ℕ → ℕ → ℕ → ℕ
marked_by k bits m = cond (eqb (bit_or bits m % 2 ^ k) (2 ^ k - 1)) m (bit_or bits m)

-- The line that an NMRU access goes to.
unfoldable pub line_for : ℕ → SetState → ℕ → Line
line_for k s b = record { bit = 2 ^ nmru_line k s b; hit = hits k s.lines b }

abbrev pub shift_by : List ℕ → ℕ → Shift
shift_by beyond w = record { beyond = beyond; weight = w; kept = kept_after w beyond }

-- What LRU moves in a set of k ways where the block's line has weight w.
abbrev pub shift_at : ℕ → ℕ → Shift
shift_at k w = shift_by (kept_from k) w
