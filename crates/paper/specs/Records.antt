-- The records of a case file, each by the widths of its fields in bytes, in order. Reading finds a field by its offset; whoever writes a record writes its fields one after another.
use Rattle.std.specs.Prelude.{ℕ, zero, suc, ◌+◌, Bool, cond, not, ◌||◌, List, [], ◌∷◌, eqb}

-- "one byte each", "16-bit", "32-bit"
abbrev pub bits8 : ℕ
bits8 = 1

abbrev pub bits16 : ℕ
bits16 = 2

abbrev pub bits32 : ℕ
bits32 = 4

-- how long a record is
abbrev pub size_of : List ℕ → ℕ
size_of [] = 0
size_of (width ∷ fields) = width + size_of fields

-- where its field i begins
abbrev pub offset : List ℕ → ℕ → ℕ
offset [] i = 0
offset (width ∷ fields) zero = 0
offset (width ∷ fields) (suc i) = width + offset fields i

-- "nodes (16-bit block each)"
abbrev pub node_fields : List ℕ
node_fields = bits16 ∷ []

abbrev pub node_size : ℕ
node_size = size_of node_fields

-- "edges (16-bit from, 16-bit to)"
abbrev pub edge_fields : List ℕ
edge_fields = bits16 ∷ bits16 ∷ []

abbrev pub edge_size : ℕ
edge_size = size_of edge_fields

abbrev pub to_field : ℕ
to_field = offset edge_fields 1

-- "Version 1 is read as without W", "Version 2 of the case file gives each loop a further 32-bit number W".
abbrev pub without_w : ℕ
without_w = 1

abbrev pub with_w : ℕ
with_w = 2

-- "versions other than 1 and 2"
unfoldable pub bad_version : ℕ → Bool
bad_version version = not (eqb version without_w || eqb version with_w)

-- "loops (16-bit first, 16-bit last, 32-bit B)", and in version 2 W
abbrev pub widest_loop : List ℕ
widest_loop = bits16 ∷ bits16 ∷ bits32 ∷ bits32 ∷ []

unfoldable pub loop_fields : ℕ → List ℕ
loop_fields version = cond (eqb version without_w) (bits16 ∷ bits16 ∷ bits32 ∷ []) widest_loop

unfoldable pub loop_size : ℕ → ℕ
loop_size version = size_of (loop_fields version)

abbrev pub last_field : ℕ
last_field = offset widest_loop 1

abbrev pub bound_field : ℕ
bound_field = offset widest_loop 2

abbrev pub visits_field : ℕ
visits_field = offset widest_loop 3

-- "facts (16-bit loop number or 65,535 for the whole graph, 16-bit block, 16-bit l, …": a fact's head
abbrev pub head_fields : List ℕ
head_fields = bits16 ∷ bits16 ∷ bits16 ∷ []

abbrev pub head_size : ℕ
head_size = size_of head_fields

abbrev pub block_field : ℕ
block_field = offset head_fields 1

abbrev pub limit_field : ℕ
limit_field = offset head_fields 2

-- "… then 16 bytes a row)": "the number and seven slots"
abbrev pub row_fields : List ℕ
row_fields = bits16 ∷ bits16 ∷ bits16 ∷ bits16 ∷ bits16 ∷ bits16 ∷ bits16 ∷ bits16 ∷ []

abbrev pub row_size : ℕ
row_size = size_of row_fields

abbrev pub slots_field : ℕ
slots_field = offset row_fields 1

-- "The last 32 bytes point back: four 32-bit offsets (nodes, edges, loops, facts); 16-bit numbers of nodes, edges, loops, facts; policy …, ways, sets, version …, one byte each;
-- then the four letters QMBT."
abbrev pub trailer_fields : List ℕ
trailer_fields =
    bits32 ∷ bits32 ∷ bits32 ∷ bits32
    ∷ bits16 ∷ bits16 ∷ bits16 ∷ bits16
    ∷ bits8 ∷ bits8 ∷ bits8 ∷ bits8
    ∷ bits8 ∷ bits8 ∷ bits8 ∷ bits8
    ∷ []

abbrev pub trailer_size : ℕ
trailer_size = size_of trailer_fields

abbrev pub edges_offset : ℕ
edges_offset = offset trailer_fields 1

abbrev pub loops_offset : ℕ
loops_offset = offset trailer_fields 2

abbrev pub facts_offset : ℕ
facts_offset = offset trailer_fields 3

abbrev pub nodes_field : ℕ
nodes_field = offset trailer_fields 4

abbrev pub edges_field : ℕ
edges_field = offset trailer_fields 5

abbrev pub loops_field : ℕ
loops_field = offset trailer_fields 6

abbrev pub facts_field : ℕ
facts_field = offset trailer_fields 7

abbrev pub policy_field : ℕ
policy_field = offset trailer_fields 8

abbrev pub ways_field : ℕ
ways_field = offset trailer_fields 9

abbrev pub sets_field : ℕ
sets_field = offset trailer_fields 10

abbrev pub version_field : ℕ
version_field = offset trailer_fields 11

abbrev pub letters_field : ℕ
letters_field = offset trailer_fields 12
