-- docs/PIPE.md: "`pipe` has fixed room."
use Rattle.std.specs.Prelude.{ℕ, ◌+◌, ◌*◌}
use Rattle.frames.specs.Places.{lent_at}

-- "a trace has at most 1,048,576 accesses and at most 1,048,576 marks"
abbrev pub accesses : ℕ
accesses = 1048576

-- "a check at most 4,096 numbers"
abbrev pub numbers : ℕ
numbers = 4096

-- "A write has at most 4,096 numbers in nodes, 16,384 in edges, 1,024 in loops, 2,048 in heads, 1,048,576 in rows": in rows as many as a trace has accesses
abbrev pub nodes : ℕ
nodes = 4096

abbrev pub edges : ℕ
edges = 16384

abbrev pub loops : ℕ
loops = 1024

abbrev pub heads : ℕ
heads = 2048

-- "A find has … at most 16,384 numbers: twice as many as the rows of 1,024 nodes take."
abbrev pub found : ℕ
found = 16384

-- "A salvage has at most 1,048,576 bytes in its file, 1,048,576 lent bytes and 4,096 numbers"
abbrev pub salvage : ℕ
salvage = 1048576

-- "A time has a file as a check has, and at most 4,096 costs"
abbrev pub costs : ℕ
costs = 4096

-- "a file has at most 4,300,000 bytes": a check's lent memory takes most.
abbrev pub bytes : ℕ
bytes = lent_at + 4300000 + 8 * numbers
