-- "The bounds": of a fact by its policy's lines of the table, the sums A and M(l), and the list of numbers, where a walk is interrupted at most p times.
use Rattle.std.specs.Prelude.{ℕ, suc, ◌+◌, ◌-◌, ◌*◌, ◌/◌, ◌%◌, min, Bool, true, cond, not, ◌&&◌, List, eqb, ltb, leb}
use Rattle.paper.specs.declared.Loop.{Loop}
use Rattle.paper.specs.Lists.{some, sum_to, lowest_to, table}
use Rattle.paper.specs.Machines.{none}
use Rattle.paper.specs.Policies.{parts_of}
unfoldable pub use Rattle.paper.specs.Policies.{ceil}
pub use Rattle.paper.specs.Policies.{g, lru_bound, fifo_bound, nmru_bound, tree_bound}
use Rattle.paper.specs.Cases.{Fact, Case, inside, scope_of}
use Rattle.paper.specs.Graphs.{count, entries}

-- "bound of a fact": the policy's lines of the table
unfoldable pub bound_of : ℕ → ℕ → ℕ → ℕ → ℕ → ℕ
bound_of policy k l E N = (parts_of policy).bound k l E N

-- "floor(k·M(l)/(k-l+1))", for the number M
unfoldable pub floor_of : ℕ → ℕ → ℕ → ℕ
floor_of k l M = (k * M) / (suc k - l)

-- "writes 321 64-bit numbers to a lent list: the total, 64 set bounds, 256 fact bounds": so many numbers, because a cache has at most 64 sets and a file at most 256 facts.
abbrev pub list_length : ℕ
list_length = 321

-- where among them the set bounds begin, after the total
abbrev pub sets_from : ℕ
sets_from = 1

-- and the fact bounds, after 64 set bounds
abbrev pub facts_from : ℕ
facts_from = 65

module _ (e : Case) where
  -- the node is in the range and fetches b
  abbrev pub fetches_in : Loop → ℕ → ℕ → Bool
  fetches_in s b v = inside s v && eqb (e.block v) b

  -- the fact covers the node: it is in the scope and fetches b
  unfoldable pub covers : Fact → ℕ → Bool
  covers t v = fetches_in (scope_of e t) t.block v

  -- the sum of the counts of the nodes that pass
  unfoldable pub counts : (ℕ → Bool) → ℕ
  counts test = sum_to (λ v. cond (test v) (count e v) 0) e.nodes

  -- "E is its entries, N the sum of counts of its nodes that fetch b", p "the greatest number … of such interruptions":
  -- "Every fact's E becomes the lesser of E + p and N, in fact bounds and in M(l), for each policy."
  unfoldable pub entered : ℕ → Fact → ℕ
  entered p t = min (entries e t + p) (counts (covers t))

  unfoldable pub fact_bound : ℕ → Fact → ℕ
  fact_bound p t = bound_of e.policy e.ways t.limit (entered p t) (counts (covers t))

  -- the block lives in set q
  unfoldable pub lives : ℕ → ℕ → Bool
  lives q b = not (eqb b none) && eqb (b % e.sets) q

  -- a node of set q that no fact that passes covers
  unfoldable pub uncovered : (Fact → Bool) → ℕ → ℕ → Bool
  uncovered test q v = lives q (e.block v) && not (some (λ i. test (e.fact i) && covers (e.fact i) v) e.facts)

  -- a number for each fact of set q that passes, and the counts of the set's nodes that no such fact covers
  unfoldable pub sum_of : (Fact → Bool) → (Fact → ℕ) → ℕ → ℕ
  sum_of test each q =
      sum_to (λ i. cond (lives q (e.fact i).block && test (e.fact i)) (each (e.fact i)) 0) e.facts + counts (uncovered test q)

  abbrev pub any_fact : Fact → Bool
  any_fact t = true

  -- "The sum A of a set is its facts' bounds plus its uncovered counts."
  unfoldable pub A : ℕ → ℕ → ℕ
  A p q = sum_of any_fact (fact_bound p) q

  abbrev pub up_to : ℕ → Fact → Bool
  up_to l t = leb t.limit l

  -- "M(l) of a set is the sum of E over its facts with limit at most l, plus the counts of fetching nodes that no such fact covers", the lesser of E + p and N in place of E.
  unfoldable pub M : ℕ → ℕ → ℕ → ℕ
  M p l q = sum_of (up_to l) (entered p) q

  -- "for each l from 1 to k, floor(k·M(l)/(k-l+1))"
  unfoldable pub floor_at : ℕ → ℕ → ℕ → ℕ
  floor_at p q j = floor_of e.ways (suc j) (M p (suc j) q)

  -- "the least of A and" the floors
  abbrev pub least_floor : ℕ → ℕ → ℕ
  least_floor p q = lowest_to (floor_at p q) (A p q) e.ways

  -- "Set bound: for LRU and NMRU, A." "For FIFO, the least of A and" the floors. For the tree "Set bound: the sum A."
  unfoldable pub set_bound : ℕ → ℕ → ℕ
  set_bound p q = cond (parts_of e.policy).floors (least_floor p q) (A p q)

  -- "Total: the sum over sets."
  unfoldable pub total_bound : ℕ → ℕ
  total_bound p = sum_to (set_bound p) e.sets

  -- number i where the total is T, and the first Q sets and the first I facts have their bounds: "unused ones 0"
  abbrev pub part_at : ℕ → ℕ → ℕ → ℕ → ℕ → ℕ
  part_at p T Q I i =
      cond (ltb i sets_from) T
      (cond (ltb i facts_from) (cond (ltb (i - sets_from) Q) (set_bound p (i - sets_from)) 0)
      (cond (ltb (i - facts_from) I) (fact_bound p (e.fact (i - facts_from))) 0))

  -- "the total, 64 set bounds, 256 fact bounds, unused ones 0": number i of all
  unfoldable pub number_at : ℕ → ℕ → ℕ
  number_at p i = part_at p (total_bound p) e.sets e.facts i

  abbrev pub numbers : ℕ → List ℕ
  numbers p = table (number_at p) list_length
