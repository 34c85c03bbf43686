-- The file with other facts: a given file's graph, and the bytes of facts; and with one fact and its rows. The tool accepts the rows as evidence where it accepts that file.
use Rattle.std.specs.Prelude.{ℕ, ◌+◌, ◌/◌, ◌%◌, List, [], ◌∷◌, ◌++◌, take, drop}
use Rattle.paper.specs.Cases.{Fact}
use Rattle.paper.specs.Records.{bits16, facts_field}
use Rattle.paper.specs.Files.{end_at, trailer_of, facts_at}

-- "Little-endian.": 16-bit numbers as bytes.
unfoldable pub words : List ℕ → List ℕ
words [] = []
words (x ∷ xs) = x % 256 ∷ x / 256 ∷ words xs

-- the sections before the facts: nodes, edges, loops
abbrev pub graph_bytes : List ℕ → List ℕ
graph_bytes f = take (facts_at (trailer_of f)) f

-- "16-bit loop number or 65,535 for the whole graph, 16-bit block, 16-bit l"
abbrev pub head_bytes : Fact → List ℕ
head_bytes t = words (t.scope ∷ t.block ∷ t.limit ∷ [])

-- "The last 32 bytes", with n for the number of facts
abbrev pub trailer_with : List ℕ → ℕ → List ℕ
trailer_with f n = take facts_field (drop (end_at f) f) ++ (words (n ∷ []) ++ drop (facts_field + bits16) (drop (end_at f) f))

-- The file with f's graph and n facts, which are these bytes.
unfoldable pub with_facts : List ℕ → List ℕ → ℕ → List ℕ
with_facts f facts n = graph_bytes f ++ (facts ++ trailer_with f n)

-- The file with f's graph and one fact, t, which has these rows.
unfoldable pub file_with : List ℕ → Fact → List ℕ → List ℕ
file_with f t rows = with_facts f (head_bytes t ++ rows) 1
