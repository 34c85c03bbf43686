-- How large the charge's tables are, and why.
use Rattle.std.specs.Prelude.{ℕ, ◌+◌, ◌*◌}

-- rule 4: at most 1,024 nodes
abbrev pub nodes : ℕ
nodes = 1024

-- at most 256 facts
abbrev pub facts : ℕ
facts = 256

-- at most 64 loops
abbrev pub loops : ℕ
loops = 64

-- at most 64 sets
abbrev pub sets : ℕ
sets = 64

-- the limit of a node that no fact covers: above every limit, since a set has at most 8 ways
abbrev pub no_limit : ℕ
no_limit = 9

-- a set's places in a table by limit: 0, which no fact has, 1 to 8, and 9
abbrev pub limits : ℕ
limits = 10

abbrev pub sets_by_limits : ℕ
sets_by_limits = limits * sets

-- the blocks are looked up modulo so many: as many buckets as there may be nodes
abbrev pub buckets : ℕ
buckets = 1024

-- a place for each bucket, then one for each node
abbrev pub chained : ℕ
chained = buckets + nodes
