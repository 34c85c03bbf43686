-- What `ways` prints: a line for each number of ways, or the refusal. Its input is numbers of 16 bits, little-endian: the number of sets, and then the trace.
use Rattle.std.specs.Prelude.{ℕ, ◌+◌, ◌-◌, ◌*◌, ◌/◌, ◌%◌, Bool, cond, ◌&&◌, List, eqb, leb, length, get_or, drop, Ok, Err}
use Rattle.paper.specs.AllWays.{misses_with, ways_verdict}
use Rattle.paper.specs.Answers.{Verdict, refuse}
use Rattle.paper.specs.Files.{u16_at}
use Rattle.paper.specs.Listings.{bytes, lines_from, refusal_line}
use Rattle.frames.specs.Little.{u16s}
use Rattle.frames.specs.Room.{accesses}

abbrev pub longest_input : ℕ
longest_input = 2 + 2 * accesses

-- The input holds a number of sets, and is neither too long nor ends with half a number.
unfoldable pub whole : ℕ → Bool
whole n = leb 2 n && (leb n longest_input && eqb (n % 2) 0)

abbrev pub sets_in : List ℕ → ℕ
sets_in input = u16_at input 0

abbrev pub trace_in : List ℕ → List ℕ
trace_in input = u16s (drop 2 input) (length input / 2 - 1)

-- "one way, two ways and so on up to eight"
abbrev pub way_lines : (ℕ → ℕ) → List ℕ
way_lines misses = lines_from (bytes "ways ") misses 1 8

-- the same of eight counts in a list, that of one way first
abbrev pub count_lines : List ℕ → List ℕ
count_lines counts = way_lines (λ w. get_or counts (w - 1) 0)

-- "no count returned"
abbrev pub said_for : ℕ → List ℕ → Verdict → List ℕ
said_for sets blocks (Ok tt) = way_lines (misses_with sets blocks)
said_for sets blocks (Err r) = refusal_line r

unfoldable pub printed_for : ℕ → List ℕ → List ℕ
printed_for sets blocks = said_for sets blocks (ways_verdict sets blocks)

-- 28 is what `bounds` prints for an input that is too long
unfoldable pub ways_of : List ℕ → List ℕ
ways_of input = cond (whole (length input)) (printed_for (sets_in input) (trace_in input)) (refusal_line (refuse 28 0))
