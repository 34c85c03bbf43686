-- "A file and its listing": the bytes that the program prints. "Each line: word, number of the set or fact, bound. Every set up to S is listed. A refusal prints `refused`, number, place."
use Rattle.std.specs.Prelude.{ℕ, zero, suc, ◌+◌, ◌/◌, ◌%◌, cond, List, [], ◌∷◌, ◌++◌, ltb, length, Ok, Err}
use Prim.Native.Char.{code}
use Prim.Native.String.{String}
use Prim.Native.String as Text
use Rattle.paper.specs.declared.Refusal.{Refusal}
use Rattle.paper.specs.Answers.{Verdict, refuse}
use Rattle.paper.specs.Cases.{Case}
use Rattle.paper.specs.Bounds.{list_length, fact_bound, set_bound, total_bound}
use Rattle.paper.specs.Ceilings.{longest_input}
use Rattle.paper.specs.Files.{read_case}
use Rattle.paper.specs.Verdicts.{verdict}

-- a text's characters, as bytes
abbrev pub bytes : String → List ℕ
bytes Text.[] = []
bytes (Text.◌∷◌ c text) = code c ∷ bytes text

-- the digit of a number below 10
abbrev pub digit : ℕ → List ℕ
digit d = (48 + d) ∷ []

-- A number below 10 is its digit; any other is n / 10 in decimal, then the last digit. (`turns` may be any number from n on.)
unfoldable pub decimal_in : ℕ → ℕ → List ℕ
decimal_in zero n = digit n
decimal_in (suc turns) n = cond (ltb n 10) (digit n) (decimal_in turns (n / 10) ++ digit (n % 10))

unfoldable pub decimal : ℕ → List ℕ
decimal n = decimal_in n n

-- a line with one number, and one with two
unfoldable pub line : List ℕ → ℕ → List ℕ
line word n = word ++ (decimal n ++ bytes "\n")

unfoldable pub line_of_two : List ℕ → ℕ → ℕ → List ℕ
line_of_two word i n = word ++ (decimal i ++ line (bytes " ") n)

-- "Each line: word, number of the set or fact, bound": the lines from i on, n of them.
unfoldable pub lines_from : List ℕ → (ℕ → ℕ) → ℕ → ℕ → List ℕ
lines_from word bound i zero = []
lines_from word bound i (suc n) = line_of_two word i (bound i) ++ lines_from word bound (suc i) n

abbrev pub lines_to : List ℕ → (ℕ → ℕ) → ℕ → List ℕ
lines_to word bound n = lines_from word bound 0 n

-- "A refusal prints `refused`, number, place." "A printed refusal ends with the second place."
abbrev pub refusal_line : Refusal → List ℕ
refusal_line r = bytes "refused " ++ (decimal r.number ++ line_of_two (bytes " ") r.place r.second)

-- the total, then the bound of each set below `sets`, then that of each fact: "Every set up to S is listed."
unfoldable pub bound_lines : ℕ → (ℕ → ℕ) → ℕ → (ℕ → ℕ) → ℕ → List ℕ
bound_lines total set sets fact facts = line (bytes "total ") total ++ (lines_to (bytes "set ") set sets ++ lines_to (bytes "fact ") fact facts)

-- the bounds for at most p interruptions
abbrev pub accepted : Case → ℕ → List ℕ
accepted e p = bound_lines (total_bound e p) (set_bound e p) e.sets (λ i. fact_bound e p (e.fact i)) e.facts

abbrev pub printed : List ℕ → ℕ → Verdict → List ℕ
printed file p (Ok tt) = accepted (read_case file) p
printed file p (Err r) = refusal_line r

-- "the program reads at most 65,536 bytes and prints `refused 28 0` for longer input", since the second place `refused 28 0 0`
unfoldable pub listing_of : List ℕ → ℕ → List ℕ
listing_of input p = cond (ltb longest_input (length input)) (refusal_line (refuse 28 0)) (printed input p (verdict input list_length))
