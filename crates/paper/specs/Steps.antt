-- "The three machines": one step of each, for every number of ways k at once.
use Rattle.std.specs.Prelude.{ℕ, suc, ◌-◌, ◌/◌, ◌%◌, ◌^◌, Bool, cond, List, [], ◌∷◌, ◌++◌, eqb, ltb, take, drop, set}
use Rattle.std.specs.Int.Bits.{bit_or}
use Rattle.paper.specs.Lists.{least}
use Rattle.paper.specs.declared.SetState.{SetState}
use Rattle.paper.specs.declared.Stepped.{Stepped}

-- "A block is a number 0 to 65,534; 65,535 means none."
abbrev pub none : ℕ
none = 65535

-- The line that b stands in; as many as there are lines where it stands in none.
unfoldable pub line_of : List ℕ → ℕ → ℕ
line_of [] b = 0
line_of (x ∷ lines) b = cond (eqb x b) 0 (suc (line_of lines b))

-- b stands in one of the k ways.
unfoldable pub hits : ℕ → List ℕ → ℕ → Bool
hits k lines b = ltb (line_of (take k lines) b) k

-- b comes to line 0 and lines 0 to j-1 one down; what stood in line j is there no more.
unfoldable pub pushed : ℕ → List ℕ → ℕ → List ℕ
pushed j lines b = b ∷ (take j lines ++ drop (suc j) lines)

-- "A miss moves all one down; the last is lost."
abbrev pub one_down : ℕ → List ℕ → ℕ → List ℕ
one_down k lines b = pushed (k - 1) lines b

-- "LRU. Line 0 is the youngest. A hit at line j moves the block to line 0 and lines 0 to j-1 one down."
unfoldable pub lru_step : ℕ → SetState → ℕ → Stepped
lru_step k s b =
    record {
      state =
          record {
            lines = cond (hits k s.lines b) (pushed (line_of (take k s.lines) b) s.lines b) (one_down k s.lines b);
            bits = s.bits;
          };
      hit = hits k s.lines b;
    }

-- "FIFO. A miss as in LRU. A hit changes nothing."
unfoldable pub fifo_step : ℕ → SetState → ℕ → Stepped
fifo_step k s b =
    record {
      state = record { lines = cond (hits k s.lines b) s.lines (one_down k s.lines b); bits = s.bits };
      hit = hits k s.lines b;
    }

-- "Bit i, of value 2^i, is line i's."
unfoldable pub bit_at : ℕ → ℕ → ℕ
bit_at bits i = bits / 2 ^ i % 2

-- "the lowest line whose bit is 0"
unfoldable pub victim : ℕ → ℕ → ℕ
victim k bits = least (λ i. eqb (bit_at bits i) 0) k

-- "The accessed line's bit becomes 1; if then all k bits are 1, all the others become 0."
unfoldable pub marked : ℕ → ℕ → ℕ → ℕ
marked k bits j = cond (eqb (bit_or bits (2 ^ j) % 2 ^ k) (2 ^ k - 1)) (2 ^ j) (bit_or bits (2 ^ j))

-- Of the k ways the lowest that b stands in; j where it stands in none of them.
unfoldable pub line_or : ℕ → List ℕ → ℕ → ℕ → ℕ
line_or k lines b j = cond (hits k lines b) (line_of (take k lines) b) j

-- "puts a missed block in the lowest empty line, whatever its bit says, and looks at bits only when no line is empty" (02, item 2). An empty line holds 65,535, so it is found as a block is.
unfoldable pub miss_line : ℕ → SetState → ℕ
miss_line k s = line_or k s.lines none (victim k s.bits)

-- "NMRU": the line that an access of b goes to.
unfoldable pub nmru_line : ℕ → SetState → ℕ → ℕ
nmru_line k s b = line_or k s.lines b (miss_line k s)

unfoldable pub nmru_step : ℕ → SetState → ℕ → Stepped
nmru_step k s b =
    record {
      state = record { lines = set s.lines (nmru_line k s b) b; bits = marked k s.bits (nmru_line k s b) };
      hit = hits k s.lines b;
    }
