-- What `salvage` writes: to standard output the rest, and to standard error the facts that were dropped, in the words of README's table, or the refusal.
use Rattle.std.specs.Prelude.{ℕ, zero, suc, ◌+◌, ◌*◌, cond, List, [], ◌∷◌, ◌++◌, eqb, ltb, length, Ok, Err}
use Rattle.paper.specs.declared.Refusal.{Refusal}
use Rattle.paper.specs.Answers.{Verdict, refuse}
use Rattle.paper.specs.Ceilings.{longest_input, most_facts}
use Rattle.paper.specs.Listings.{bytes, decimal, line_of_two, refusal_line}
use Rattle.paper.specs.Salvaging.{salvaged, dropped, salvage_verdict}
use Rattle.listing.specs.Listed.{Printed}
use Rattle.salvaging.specs.declared.Saved.{Saved}

-- README's "what is wrong", for each number that a fact can earn
unfoldable pub wrong : ℕ → List ℕ
wrong n =
    cond (eqb n 11) (bytes "fewer than 6 bytes are left for a fact")
    (cond (eqb n 12) (bytes "a fact's loop number, block or age limit out of range")
    (cond (eqb n 13) (bytes "a fact's block is below the previous fact's, or equal and its scope starts at or before the previous scope's last node")
    (cond (eqb n 14) (bytes "no node of a fact's scope fetches its block")
    (cond (eqb n 15) (bytes "a fact's rows are cut short, or the writer is handed more or fewer than its scope has nodes")
    (cond (eqb n 16) (bytes "a row is not sound")
    (cond (eqb n 17) (bytes "a set is followed by row 9, or by a set that lacks a block")
    (cond (eqb n 18) (bytes "a node that fetches the fact's block has row 8 (\"many\")")
    (cond (eqb n 24) (bytes "row 9 (\"not since b\") follows a fetch of the fact's block")
    (cond (eqb n 25) (bytes "row 8 (\"many\") is followed by another row") [])))))))))

-- "each with the first number it earns and places": the fact and what is wrong with it, then number and places as a refusal has them
unfoldable pub named : ℕ → ℕ → List ℕ
named number place = bytes "fact " ++ (decimal place ++ (bytes ": " ++ wrong number))

unfoldable pub fact_line : ℕ → ℕ → ℕ → List ℕ
fact_line number place second = named number place ++ (bytes ": refused " ++ (decimal number ++ line_of_two (bytes " ") place second))

abbrev pub fact_lines : List Refusal → List ℕ
fact_lines [] = []
fact_lines (r ∷ rest) = fact_line r.number r.place r.second ++ fact_lines rest

-- the same of three numbers a fact, those of fact i and of n - 1 after it
unfoldable pub lines_from : (ℕ → ℕ) → ℕ → ℕ → List ℕ
lines_from g i zero = []
lines_from g i (suc n) = fact_line (g (3 * i)) (g (3 * i + 1)) (g (3 * i + 2)) ++ lines_from g (suc i) n

-- three numbers for each fact that a file can have
abbrev pub list_room : ℕ
list_room = 3 * most_facts

-- "the program reads at most 65,536 bytes", as `bounds` does
unfoldable pub verdict_of : List ℕ → Verdict
verdict_of input = cond (ltb longest_input (length input)) (Err (refuse 28 0)) (salvage_verdict input longest_input list_room)

abbrev pub rest_of : List ℕ → Verdict → List ℕ
rest_of input (Ok tt) = salvaged input
rest_of input (Err r) = []

abbrev pub said_of : List ℕ → Verdict → List ℕ
said_of input (Ok tt) = fact_lines (dropped input)
said_of input (Err r) = refusal_line r

-- `out` and `after`: the lent bytes for the rest before and after; `text` and `textAfter`: those for what is said.
pub record Saves (v : Verdict) (input out text : List ℕ) (r : Saved) (after textAfter : List ℕ) : Type 0 where
  pub rest : Printed (rest_of input v) out r.rest after
  pub said : Printed (said_of input v) text r.said textAfter
