-- The search: a table of rows, one for each node of the scope from its first on, and a pass over the edges in file order. Then the limit, and the rows that are lent.
use Rattle.std.specs.Prelude.{ℕ, zero, suc, ◌+◌, ◌-◌, ◌*◌, max, Bool, false, cond, not, ◌&&◌, ◌||◌, List, eqb, get_or}
use Rattle.std.proofs.lemmas.List.Edits.{sets}
use Rattle.paper.specs.Lists.{each}
use Rattle.paper.specs.Cases.{Fact, Case, inside, size, scope_of, fetches}
use Rattle.paper.specs.Writing.{per_row}
use Rattle.lines.specs.Lines.{eight}
use Rattle.search.specs.Steps.{number_of, stepped, lowered}

-- row j of a table
unfoldable pub table_row : List ℕ → ℕ → List ℕ
table_row table j = eight (λ i. get_or table (per_row * j + i) 0)

-- the table with r as its row j
unfoldable pub with_row : List ℕ → ℕ → List ℕ → List ℕ
with_row table j r = sets table (per_row * j) (eight (λ i. get_or r i 0))

-- The limit that a row with this number asks for where b is fetched: one more than it holds; where it is "many", 9, more than any.
unfoldable pub asks : ℕ → ℕ
asks n = cond (eqb n 9) 1 (suc n)

module _ (e : Case) (t : Fact) where
  -- where node v's row stands, and the row
  abbrev pub row_index : ℕ → ℕ
  row_index v = v - (scope_of e t).first

  abbrev pub node_row : List ℕ → ℕ → List ℕ
  node_row table v = table_row table (row_index v)

  -- edge i lies inside the scope
  unfoldable pub within : ℕ → Bool
  within i = inside (scope_of e t) (e.from i) && inside (scope_of e t) (e.to i)

  -- what edge i makes of the row of its end
  unfoldable pub stepped_at : List ℕ → ℕ → List ℕ
  stepped_at table i = stepped e t (e.block (e.from i)) (node_row table (e.from i)) (node_row table (e.to i))

  -- it is another row: then it has another number
  unfoldable pub changes : List ℕ → ℕ → Bool
  changes table i = within i && not (eqb (number_of (stepped_at table i)) (number_of (node_row table (e.to i))))

  unfoldable pub after_edge : List ℕ → ℕ → List ℕ
  after_edge table i = cond (changes table i) (with_row table (row_index (e.to i)) (stepped_at table i)) table

  -- the table after the first i edges, and whether one of them changed it
  unfoldable pub pass_to : List ℕ → ℕ → List ℕ
  pass_to table zero = table
  pass_to table (suc i) = after_edge (pass_to table i) i

  unfoldable pub changed_to : List ℕ → ℕ → Bool
  changed_to table zero = false
  changed_to table (suc i) = changed_to table i || changes (pass_to table i) i

  -- the most that is asked for at the first j nodes of the scope
  unfoldable pub most_to : List ℕ → ℕ → ℕ
  most_to table zero = 0
  most_to table (suc j) = cond (fetches e t j) (max (most_to table j) (asks (number_of (table_row table j)))) (most_to table j)

  -- the rows that are lent, for the limit l
  unfoldable pub rows_found : List ℕ → ℕ → List ℕ
  rows_found table l = each (λ j. lowered l (table_row table j)) (size (scope_of e t))
