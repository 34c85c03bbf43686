-- "Item 9. The tree board." (02): where the bits lead, what an access turns, and one step, for every number of ways at once.
use Rattle.std.specs.Prelude.{ℕ, zero, suc, ◌+◌, ◌-◌, ◌*◌, ◌/◌, ◌%◌, ◌^◌, leb, set}
use Rattle.paper.specs.Lists.{least}
use Rattle.paper.specs.declared.SetState.{SetState}
use Rattle.paper.specs.declared.Stepped.{Stepped}
use Rattle.paper.specs.Steps.{bit_at, hits, line_or}

-- log2 k: so many levels of bits stand above 2, 4 or 8 lines
unfoldable pub levels : ℕ → ℕ
levels k = least (λ d. leb k (2 ^ d)) 3

-- "at most 1 + log2 k": the largest limit that the tree keeps
unfoldable pub tree_limit : ℕ → ℕ
tree_limit k = 1 + levels k

-- "Bits are numbered from the root: 0, then 2i+1 and 2i+2 below i". The lines stand below the last bits and are numbered on: line j has the number k-1+j.
unfoldable pub parent : ℕ → ℕ
parent i = (i - 1) / 2

-- "0 points to the lower lines": the number that bit i points to
unfoldable pub pointed : ℕ → ℕ → ℕ
pointed bits i = 2 * i + 1 + bit_at bits i

-- the number that the bits lead to, d levels below i
unfoldable pub led_to : ℕ → ℕ → ℕ → ℕ
led_to zero bits i = i
led_to (suc d) bits i = led_to d bits (pointed bits i)

-- "A miss follows the bits and takes that line"
unfoldable pub tree_victim : ℕ → ℕ → ℕ
tree_victim k bits = led_to (levels k) bits 0 - (k - 1)

-- bit i becomes v, and the others stay
unfoldable pub with_bit : ℕ → ℕ → ℕ → ℕ
with_bit bits i v = bits - bit_at bits i * 2 ^ i + v * 2 ^ i

-- the bit above i turned away from it: of the two numbers below a bit the lower is odd, and the bit becomes 1
unfoldable pub turned_from : ℕ → ℕ → ℕ
turned_from bits i = with_bit bits (parent i) (i % 2)

-- the d bits above i turned away from it
unfoldable pub turned_above : ℕ → ℕ → ℕ → ℕ
turned_above zero bits i = bits
turned_above (suc d) bits i = turned_above d (turned_from bits i) (parent i)

-- "Each access turns the bits on its line's path away from it."
unfoldable pub turned : ℕ → ℕ → ℕ → ℕ
turned k bits j = turned_above (levels k) bits (k - 1 + j)

-- the line that an access of b goes to: "A miss follows the bits and takes that line, empty or not."
unfoldable pub tree_line : ℕ → SetState → ℕ → ℕ
tree_line k s b = line_or k s.lines b (tree_victim k s.bits)

unfoldable pub tree_step : ℕ → SetState → ℕ → Stepped
tree_step k s b =
    record {
      state = record { lines = set s.lines (tree_line k s b) b; bits = turned k s.bits (tree_line k s b) };
      hit = hits k s.lines b;
    }
