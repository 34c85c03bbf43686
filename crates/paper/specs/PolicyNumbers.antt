-- The policies of the code by their numbers.
use Rattle.std.specs.Prelude.{ℕ}
use Rattle.paper.specs.declared.policies.Policy.{Policy}
use Rattle.paper.specs.declared.policies.Policy.TheVariants.{Lru, Fifo, Nmru, Tree}
use Rattle.paper.specs.Policies.{lru_policy, fifo_policy, nmru_policy, tree_policy}

-- "policy (0 LRU, 1 FIFO, 2 NMRU)"; "Policy 3 is tree replacement"
abbrev pub number_of : Policy → ℕ
number_of Lru = lru_policy
number_of Fifo = fifo_policy
number_of Nmru = nmru_policy
number_of Tree = tree_policy
