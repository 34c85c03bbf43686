-- "Nodes 1 to 1,024, edges 0 to 4,096, loops 0 to 64, facts 0 to 256, B from 1 to 1,000,000, a node's count to 4,294,967,295."
use Rattle.std.specs.Prelude.{ℕ}

abbrev pub most_nodes : ℕ
most_nodes = 1024

abbrev pub most_edges : ℕ
most_edges = 4096

abbrev pub most_loops : ℕ
most_loops = 64

abbrev pub most_facts : ℕ
most_facts = 256

abbrev pub most_bound : ℕ
most_bound = 1000000

abbrev pub most_count : ℕ
most_count = 4294967295

-- "the program reads at most 65,536 bytes"
abbrev pub longest_input : ℕ
longest_input = 65536
