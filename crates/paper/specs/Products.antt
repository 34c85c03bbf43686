-- The counts, entries and bounds of document 01: products of B, with no W, and E where it now says the lesser of E and N. "Version 1 is read as without W and gives its old numbers": these.
use Rattle.std.specs.Prelude.{ℕ, suc, ◌+◌, ◌-◌, Bool, cond, ◌&&◌, List, eqb, ltb}
use Rattle.paper.specs.Lists.{sum_to, product_to, lowest_to, table}
use Rattle.paper.specs.Machines.{none}
use Rattle.paper.specs.Policies.{parts_of}
use Rattle.paper.specs.Cases.{Fact, Case, inside}
use Rattle.paper.specs.Graphs.{around}
use Rattle.paper.specs.Bounds.{bound_of, floor_of, list_length, sets_from, facts_from, covers, lives, uncovered, any_fact, up_to}

module _ (e : Case) where
  -- "the product of B over all loops" that pass the test; "Empty products are 1."
  abbrev pub product_of : (ℕ → Bool) → ℕ
  product_of test = product_to (λ j. cond (test j) (e.loop j).bound 1) e.loops

  -- "Count of a node: the product of B over all loops that contain it."
  unfoldable pub product_count : ℕ → ℕ
  product_count v = product_of (λ j. inside (e.loop j) v)

  -- "Entries of a loop: the product over the loops strictly around it", "the whole graph with one entry"
  unfoldable pub product_entries : Fact → ℕ
  product_entries t = cond (eqb t.scope none) 1 (product_of (λ j. around (e.loop t.scope) (e.loop j)))

  unfoldable pub product_counts : (ℕ → Bool) → ℕ
  product_counts test = sum_to (λ v. cond (test v) (product_count v) 0) e.nodes

  -- "E is its entries, N the sum of counts of its nodes that fetch b."
  unfoldable pub product_bound : Fact → ℕ
  product_bound t = bound_of e.policy e.ways t.limit (product_entries t) (product_counts (covers e t))

  unfoldable pub product_sum : (Fact → Bool) → (Fact → ℕ) → ℕ → ℕ
  product_sum test each q =
      sum_to (λ i. cond (lives e q (e.fact i).block && test (e.fact i)) (each (e.fact i)) 0) e.facts + product_counts (uncovered e test q)

  unfoldable pub product_floor : ℕ → ℕ → ℕ
  product_floor q j = floor_of e.ways (suc j) (product_sum (up_to e (suc j)) product_entries q)

  unfoldable pub product_set : ℕ → ℕ
  product_set q =
      let A = product_sum (any_fact e) product_bound q in
      cond (parts_of e.policy).floors (lowest_to (product_floor q) A e.ways) A

  -- "the total, 64 set bounds, 256 fact bounds, unused ones 0"
  unfoldable pub product_number : ℕ → ℕ
  product_number i =
      cond (ltb i sets_from) (sum_to product_set e.sets)
      (cond (ltb i facts_from) (cond (ltb (i - sets_from) e.sets) (product_set (i - sets_from)) 0)
      (cond (ltb (i - facts_from) e.facts) (product_bound (e.fact (i - facts_from))) 0))

  abbrev pub product_numbers : List ℕ
  product_numbers = table product_number list_length
