-- Where things lie in a request and in an answer of docs/PIPE.md: each by the widths of its fields in bytes, in order.
use Rattle.std.specs.Prelude.{ℕ, ◌+◌, ◌*◌, List, [], ◌∷◌}
use Rattle.paper.specs.Records.{bits8, bits16, bits32, size_of, offset}

abbrev pub bits64 : ℕ
bits64 = 8

-- "eight lines u16 each"
abbrev pub lines_width : ℕ
lines_width = 8 * bits16

-- "An answer is the operation's byte, the refusal's number u8 (0: not refused), the refusal's place u64 and its second place u64 (both 0 where not refused), and then": every answer's head
abbrev pub head_size : ℕ
head_size = size_of (bits8 ∷ bits8 ∷ bits64 ∷ bits64 ∷ [])

-- what follows it first: "0 for a hit, 1 for a miss, 2 for a refusal, u8", "the block u16", "the set u8", "the misses u64", "the file's length u64", "the limit u16", "the rest's length u64 and the number of dropped facts u64"
abbrev pub outcome_width : ℕ
outcome_width = bits8

abbrev pub block_width : ℕ
block_width = bits16

abbrev pub set_width : ℕ
set_width = bits8

abbrev pub misses_width : ℕ
misses_width = bits64

abbrev pub length_width : ℕ
length_width = bits64

abbrev pub limit_width : ℕ
limit_width = bits16

abbrev pub count_width : ℕ
count_width = bits64

-- A step's answer is the longest without lent memory. The lent memory stands after room for it.
abbrev pub lent_at : ℕ
lent_at = head_size + size_of (outcome_width ∷ lines_width ∷ bits8 ∷ [])

-- "the byte 0, then one byte that says why, then the number of frames answered before it, u64"
abbrev pub last_size : ℕ
last_size = size_of (bits8 ∷ bits8 ∷ bits64 ∷ [])

-- "policy u8, ways u8, eight lines u16 each, bits u8, block u16"
abbrev pub step_fields : List ℕ
step_fields = bits8 ∷ bits8 ∷ lines_width ∷ bits8 ∷ bits16 ∷ []

abbrev pub step_ways : ℕ
step_ways = offset step_fields 1

abbrev pub step_lines : ℕ
step_lines = offset step_fields 2

abbrev pub step_bits : ℕ
step_bits = offset step_fields 3

abbrev pub step_block : ℕ
step_block = offset step_fields 4

-- "address u32, line size u32"
abbrev pub block_fields : List ℕ
block_fields = bits32 ∷ bits32 ∷ []

abbrev pub block_line_size : ℕ
block_line_size = offset block_fields 1

-- "block u16, sets u8"
abbrev pub set_fields : List ℕ
set_fields = bits16 ∷ bits8 ∷ []

abbrev pub set_sets : ℕ
set_sets = offset set_fields 1

-- "policy u8, ways u8, sets u8, accesses n u32, marks m u32"
abbrev pub trace_fields : List ℕ
trace_fields = bits8 ∷ bits8 ∷ bits8 ∷ bits32 ∷ bits32 ∷ []

abbrev pub trace_ways : ℕ
trace_ways = offset trace_fields 1

abbrev pub trace_sets : ℕ
trace_sets = offset trace_fields 2

abbrev pub trace_accesses : ℕ
trace_accesses = offset trace_fields 3

abbrev pub trace_marks : ℕ
trace_marks = offset trace_fields 4

-- "interruptions u16, file bytes n u32, numbers m u32"
abbrev pub check_fields : List ℕ
check_fields = bits16 ∷ bits32 ∷ bits32 ∷ []

abbrev pub check_file : ℕ
check_file = offset check_fields 1

abbrev pub check_numbers : ℕ
check_numbers = offset check_fields 2

-- "version u8, policy u8, ways u8, sets u8, six counts u32 each: how many numbers there are in nodes, edges, loops, heads and rows, and how many bytes m are lent"
abbrev pub write_fields : List ℕ
write_fields = bits8 ∷ bits8 ∷ bits8 ∷ bits8 ∷ bits32 ∷ bits32 ∷ bits32 ∷ bits32 ∷ bits32 ∷ bits32 ∷ []

abbrev pub write_policy : ℕ
write_policy = offset write_fields 1

abbrev pub write_ways : ℕ
write_ways = offset write_fields 2

abbrev pub write_sets : ℕ
write_sets = offset write_fields 3

abbrev pub write_nodes : ℕ
write_nodes = offset write_fields 4

abbrev pub write_edges : ℕ
write_edges = offset write_fields 5

abbrev pub write_loops : ℕ
write_loops = offset write_fields 6

abbrev pub write_heads : ℕ
write_heads = offset write_fields 7

abbrev pub write_rows : ℕ
write_rows = offset write_fields 8

abbrev pub write_lent : ℕ
write_lent = offset write_fields 9

-- "scope u16, block u16, file bytes n u32, numbers m u32"
abbrev pub find_fields : List ℕ
find_fields = bits16 ∷ bits16 ∷ bits32 ∷ bits32 ∷ []

abbrev pub find_block : ℕ
find_block = offset find_fields 1

abbrev pub find_file : ℕ
find_file = offset find_fields 2

abbrev pub find_numbers : ℕ
find_numbers = offset find_fields 3

-- "file bytes n u32, lent bytes m u32, numbers d u32"
abbrev pub salvage_fields : List ℕ
salvage_fields = bits32 ∷ bits32 ∷ bits32 ∷ []

abbrev pub salvage_out : ℕ
salvage_out = offset salvage_fields 1

abbrev pub salvage_numbers : ℕ
salvage_numbers = offset salvage_fields 2

-- A writer's arguments take most.
abbrev pub arguments_room : ℕ
arguments_room = size_of write_fields

-- "sets u8, accesses n u32"
abbrev pub ways_fields : List ℕ
ways_fields = bits8 ∷ bits32 ∷ []

abbrev pub ways_accesses : ℕ
ways_accesses = offset ways_fields 1

-- "eight counts u64 each": the answer that has them is longer than what stands before lent memory, and has bytes of its own
abbrev pub counts_size : ℕ
counts_size = head_size + 8 * bits64

-- "interruptions u16, penalty u32, file bytes n u32, costs c u32"
abbrev pub time_fields : List ℕ
time_fields = bits16 ∷ bits32 ∷ bits32 ∷ bits32 ∷ []

abbrev pub time_penalty : ℕ
time_penalty = offset time_fields 1

abbrev pub time_file : ℕ
time_file = offset time_fields 2

abbrev pub time_costs : ℕ
time_costs = offset time_fields 3

-- "the time u64": its answer has bytes of its own too
abbrev pub time_width : ℕ
time_width = bits64

abbrev pub time_size : ℕ
time_size = head_size + time_width
