-- The bounds and demand 3 as they stood before a walk could be interrupted. "With p = 0 all is as before" compares with these; nothing else speaks of them.
use Rattle.std.specs.Prelude.{ℕ, suc, ◌-◌, min, cond, List, [], ◌∷◌, ◌++◌, ltb}
use Rattle.paper.specs.Lists.{sum_to, lowest_to, table}
use Rattle.paper.specs.Policies.{parts_of}
use Rattle.paper.specs.Traces.{Content}
use Rattle.paper.specs.Cases.{Fact, Case}
use Rattle.paper.specs.Graphs.{entries}
use Rattle.paper.specs.Walks.{Walk, KeepsLimits}
use Rattle.paper.specs.Runs.{LegalContent, Fetch, visited, fetched}
use Rattle.paper.specs.Bounds.{bound_of, floor_of, list_length, sets_from, facts_from, covers, counts, sum_of, any_fact, up_to}
use Rattle.paper.specs.Demands.{BoundsHold}

module _ (e : Case) where
  -- "every bound uses the lesser of E and N in place of E" (02, item 7)
  unfoldable pub plain_entered : Fact → ℕ
  plain_entered t = min (entries e t) (counts e (covers e t))

  unfoldable pub plain_fact : Fact → ℕ
  plain_fact t = bound_of e.policy e.ways t.limit (plain_entered t) (counts e (covers e t))

  unfoldable pub plain_a : ℕ → ℕ
  plain_a q = sum_of e (any_fact e) plain_fact q

  unfoldable pub plain_floor : ℕ → ℕ → ℕ
  plain_floor q j = floor_of e.ways (suc j) (sum_of e (up_to e (suc j)) plain_entered q)

  unfoldable pub plain_set : ℕ → ℕ
  plain_set q = cond (parts_of e.policy).floors (lowest_to (plain_floor q) (plain_a q) e.ways) (plain_a q)

  unfoldable pub plain_at : ℕ → ℕ
  plain_at i =
      cond (ltb i sets_from) (sum_to plain_set e.sets)
      (cond (ltb i facts_from) (cond (ltb (i - sets_from) e.sets) (plain_set (i - sets_from)) 0)
      (cond (ltb (i - facts_from) e.facts) (plain_fact (e.fact (i - facts_from))) 0))

  -- the 321 numbers
  abbrev pub plain_numbers : List ℕ
  plain_numbers = table plain_at list_length

  -- the run of a walk
  unfoldable pub plain_run : Content → List ℕ → List Fetch
  plain_run c [] = []
  plain_run c (v ∷ w) = fetched e c v ++ plain_run (visited e c v) w

  -- "on every walk from node 0 that keeps the loop limits and for every legal cache content at the start"
  abbrev pub HoldsPlainly : List ℕ → Type 0
  HoldsPlainly numbers = (w : List ℕ) → Walk e w → KeepsLimits e w → (c : Content) → LegalContent e c → BoundsHold e numbers (plain_run c w)
