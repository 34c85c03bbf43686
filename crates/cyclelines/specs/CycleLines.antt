-- What `cycles` prints: the time, or the refusal. Its input is little-endian: the penalty in 32 bits, the number of interruptions in 16, the number of costs in 16, the costs in 32 each, and then the file.
use Rattle.std.specs.Prelude.{ℕ, ◌+◌, ◌*◌, Bool, cond, ◌&&◌, List, leb, length, drop, Result, Ok, Err}
use Rattle.paper.specs.Answers.{refuse}
use Rattle.paper.specs.Ceilings.{longest_input}
use Rattle.paper.specs.Files.{u16_at, u32_at}
use Rattle.paper.specs.Listings.{bytes, line, refusal_line}
use Rattle.paper.specs.Times.{file_time_answer}
use Rattle.frames.specs.Little.{u32s}
use Rattle.paper.specs.declared.Refusal.{Refusal}

abbrev pub many_in : List ℕ → ℕ
many_in input = u16_at input 6

abbrev pub file_from : List ℕ → ℕ
file_from input = 8 + 4 * many_in input

-- The input holds its head and as many costs as that says, and is not too long.
unfoldable pub whole : List ℕ → Bool
whole input = leb 8 (length input) && (leb (length input) longest_input && leb (file_from input) (length input))

abbrev pub time_line : Result ℕ Refusal → List ℕ
time_line (Ok n) = line (bytes "time ") n
time_line (Err r) = refusal_line r

unfoldable pub printed_for : List ℕ → List ℕ
printed_for input = time_line (file_time_answer (drop (file_from input) input) (u32s (drop 8 input) (many_in input)) (u32_at input 0) (u16_at input 4))

-- 28 is what `bounds` prints for an input that is too long
unfoldable pub cycles_of : List ℕ → List ℕ
cycles_of input = cond (whole input) (printed_for input) (refusal_line (refuse 28 0))
