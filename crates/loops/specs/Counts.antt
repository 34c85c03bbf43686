-- "A node's count is the header visits of its innermost loop", loop by loop, and as numbers of 32 bits show it.
use Rattle.std.specs.Prelude.{ℕ, ◌*◌, cond, List, eqb, ltb, get_or}
use Rattle.paper.specs.declared.Loop.{Loop}
use Rattle.paper.specs.Lists.{chain}
use Rattle.paper.specs.Cases.{Case, inside}
use Rattle.paper.specs.Graphs.{at_most, header_visits}

-- what a list of records reads past its end
abbrev pub no_loop : Loop
no_loop = record { first = 0; last = 0; bound = 0; visits = 0 }

-- the node's count over the first n loops of a case
unfoldable pub count_to : Case → ℕ → ℕ → ℕ
count_to e v n = chain (header_visits e) (λ j. inside (e.loop j) v) n

-- A count as a table of 32-bit numbers holds it: 0 where it is too large.
unfoldable pub shown : ℕ → ℕ
shown p = cond (ltb 4294967295 p) 0 p

-- What a number that is shown is further in: 2 to the 32 where it was too large. A W may bring it back, so it must not stay too large; how large it was plays no part.
unfoldable pub taken : ℕ → ℕ
taken k = cond (eqb k 0) 4294967296 k

-- loop l's header visits as they are shown, where k is shown of the next loop out
unfoldable pub stepped : Loop → ℕ → ℕ
stepped l k = shown (at_most l.visits (l.bound * taken k))

-- what is shown of the node's count over the first n loops of a list of records
unfoldable pub count_in : List Loop → ℕ → ℕ → ℕ
count_in loops n v = chain (λ j. stepped (get_or loops j no_loop)) (λ j. inside (get_or loops j no_loop) v) n
