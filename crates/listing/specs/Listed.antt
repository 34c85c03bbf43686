-- What `listing` promises: a text at the start of the lent bytes; and the lines of 321 numbers.
use Rattle.std.specs.Prelude.{ℕ, ◌+◌, ◌-◌, ◌≤◌, ◌≡◌, List, ◌++◌, length, get_or, drop}
use Rattle.paper.specs.Bounds.{sets_from, facts_from}
use Rattle.paper.specs.Listings.{lines_from, bound_lines}

-- the number that stands i places after `from`
abbrev pub after : List ℕ → ℕ → ℕ → ℕ
after numbers from i = get_or numbers (from + i) 0

-- a line for each number of a list, the first of them counted as `first`
abbrev pub numbered : List ℕ → ℕ → List ℕ → List ℕ
numbered word first numbers = lines_from word (λ i. get_or numbers (i - first) 0) first (length numbers)

abbrev pub number_lines : List ℕ → ℕ → ℕ → List ℕ
number_lines numbers sets facts = bound_lines (get_or numbers 0 0) (after numbers sets_from) sets (after numbers facts_from) facts

-- The first r bytes are the text, and the others are as they were. `lent` and `left`: the lent bytes before and after.
pub record Printed (text lent : List ℕ) (r : ℕ) (left : List ℕ) : Type 0 where
  pub count : r ≡ length text
  pub fits : r ≤ length left
  pub bytes : left ≡ text ++ drop r lent
