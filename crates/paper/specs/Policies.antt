-- The policies, each with its parts side by side: what the paper says of one policy and not of another stands here, and everywhere else a policy's part is asked for.
use Rattle.std.specs.Prelude.{ℕ, ◌+◌, ◌-◌, ◌*◌, ◌/◌, ◌^◌, min, Bool, true, false, cond, ◌&&◌, ◌||◌, eqb, ltb, leb}
use Rattle.paper.specs.declared.SetState.{SetState}
use Rattle.paper.specs.declared.Stepped.{Stepped}
use Rattle.paper.specs.Steps.{lru_step, fifo_step, nmru_step}
use Rattle.paper.specs.Trees.{tree_limit, tree_step}

-- k / n, rounded up
unfoldable pub ceil : ℕ → ℕ → ℕ
ceil k n = (k + (n - 1)) / n

-- "g = ceil(k/(l-1))"
abbrev pub g : ℕ → ℕ → ℕ
g k l = ceil k (l - 1)

-- The table, a policy's lines each: ways k, limit l, entries E and fetches N.
-- "LRU: E"
abbrev pub lru_bound : ℕ → ℕ → ℕ → ℕ → ℕ
lru_bound k l E N = E

-- "FIFO, l = 1: E"; "FIFO, l >= 2: E + floor((N-E)/g)"
abbrev pub fifo_bound : ℕ → ℕ → ℕ → ℕ → ℕ
fifo_bound k l E N = cond (ltb l 2) E (E + (N - E) / g k l)

-- "NMRU, l = 1: E"; "the bound for l = 2 is E, and the factor l starts at 3" (02, item 3): from there on "the lesser of N and l times E"
abbrev pub nmru_bound : ℕ → ℕ → ℕ → ℕ → ℕ
nmru_bound k l E N = cond (ltb l 3) E (min N (l * E))

-- "A fact whose limit is at most 1 + log2 k has bound E (the lesser of E and N since Item 7); a larger limit gets N, because no larger limit helps in general." (02, item 9)
abbrev pub tree_bound : ℕ → ℕ → ℕ → ℕ → ℕ
tree_bound k l E N = cond (leb l (tree_limit k)) E N

-- What differs between policies.
pub record Parts : Type 0 where
  -- "A set has k ways (LRU, FIFO 1 to 8; NMRU 2 to 8)", "tree replacement with 2, 4 or 8 ways": whether it may have k
  pub ways : ℕ → Bool
  -- "the bits are 0 for LRU and FIFO; for NMRU the bits from k on are 0 and at least one of the low k is 0"; the tree's "legal state has bits 0 from k-1 on": with k ways those below this number are legal
  pub bits : ℕ → ℕ
  -- one step of the machine with k ways
  pub step : ℕ → SetState → ℕ → Stepped
  -- the lines of the table
  pub bound : ℕ → ℕ → ℕ → ℕ → ℕ
  -- "Set bound: for LRU and NMRU, A. For FIFO, the least of A and" the floors; for the tree "the sum A": whether there are floors
  pub floors : Bool

-- at least so many ways, and at most 8
abbrev pub ways_from : ℕ → ℕ → Bool
ways_from fewest k = leb k 8 && leb fewest k

-- "with 2, 4 or 8 ways"
abbrev pub tree_ways : ℕ → Bool
tree_ways k = eqb k 2 || (eqb k 4 || eqb k 8)

abbrev pub lru : Parts
lru = record { ways = ways_from 1; bits = λ k. 1; step = lru_step; bound = lru_bound; floors = false }

abbrev pub fifo : Parts
fifo = record { ways = ways_from 1; bits = λ k. 1; step = fifo_step; bound = fifo_bound; floors = true }

abbrev pub nmru : Parts
nmru = record { ways = ways_from 2; bits = λ k. 2 ^ k - 1; step = nmru_step; bound = nmru_bound; floors = false }

abbrev pub tree : Parts
tree = record { ways = tree_ways; bits = λ k. 2 ^ (k - 1); step = tree_step; bound = tree_bound; floors = false }

-- "policy (0 LRU, 1 FIFO, 2 NMRU)"; "Policy 3 is tree replacement"
abbrev pub lru_policy : ℕ
lru_policy = 0

abbrev pub fifo_policy : ℕ
fifo_policy = 1

abbrev pub nmru_policy : ℕ
nmru_policy = 2

abbrev pub tree_policy : ℕ
tree_policy = 3

-- `offered` refuses what is above the last, whose parts are then nobody's.
abbrev pub last_policy : ℕ
last_policy = tree_policy

abbrev pub parts_of : ℕ → Parts
parts_of policy = cond (eqb policy lru_policy) lru (cond (eqb policy fifo_policy) fifo (cond (eqb policy nmru_policy) nmru tree))
