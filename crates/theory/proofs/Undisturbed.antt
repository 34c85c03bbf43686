-- "With p = 0 all is as before": the numbers are those that stood before a walk could be interrupted, and demand 3 says what it said of walks that nothing interrupts. What holds for p interruptions holds for fewer.
use Prim.Native.Nat.{ℕ, suc, ◌-◌, ◌≤◌, min}
use native.Mathlib.Omega.{arith}
use native.Mathlib.Nat.{add-zero, le_trans}
use mathlib.Core.Path.{◌≡◌, refl, sym, ap, subst}
use mathlib.Core.Logic.{◌↔◌}
use mathlib.Core.Bool.{cond}
use mathlib.Core.List.{List, [], ◌∷◌, ◌++◌}
use lib.Dec.{ltb}
use Rattle.paper.specs.Lists.{sum_to, lowest_to, table}
use Rattle.paper.specs.Policies.{parts_of}
use Rattle.paper.specs.Traces.{Content}
use Rattle.paper.specs.Cases.{Case}
use Rattle.paper.specs.Graphs.{entries}
use Rattle.paper.specs.Walks.{Walk, KeepsLimits}
use Rattle.paper.specs.Runs.{Event, visit, interruption, walk_of, interruptions, Fetch, visited, fetched, run}
use Rattle.paper.specs.Bounds.{bound_of, floor_of, list_length, sets_from, facts_from, covers, counts, sum_of, any_fact, up_to, entered, fact_bound, A, M, floor_at, set_bound, total_bound, number_at, numbers}
use Rattle.paper.specs.Demands.{BoundsHold, Holds}
use Rattle.paper.specs.Uninterrupted.{plain_entered, plain_fact, plain_a, plain_floor, plain_set, plain_at, plain_numbers, plain_run, HoldsPlainly}

module _ (e : Case) where
  -- the one line that has p: the lesser of E + 0 and N
  entered_as_before : entered e 0 ≡ plain_entered e
  unfolding entered plain_entered
  entered_as_before i t = ap (λ (E : ℕ). min E (counts e (covers e t))) (add-zero (entries e t)) i

  -- and what is made of it, line by line
  fact_as_before : fact_bound e 0 ≡ plain_fact e
  unfolding fact_bound plain_fact
  fact_as_before i t = bound_of e.policy e.ways t.limit (entered_as_before i t) (counts e (covers e t))

  A_as_before : A e 0 ≡ plain_a e
  unfolding A plain_a
  A_as_before i q = sum_of e (any_fact e) (fact_as_before i) q

  floor_as_before : floor_at e 0 ≡ plain_floor e
  unfolding floor_at M plain_floor
  floor_as_before i q j = floor_of e.ways (suc j) (sum_of e (up_to e (suc j)) (entered_as_before i) q)

  set_as_before : set_bound e 0 ≡ plain_set e
  unfolding set_bound plain_set
  set_as_before i q = cond (parts_of e.policy).floors (lowest_to (floor_as_before i q) (A_as_before i q) e.ways) (A_as_before i q)

  number_as_before : number_at e 0 ≡ plain_at e
  unfolding number_at total_bound plain_at
  number_as_before i n =
      cond (ltb n sets_from) (sum_to (set_as_before i) e.sets)
      (cond (ltb n facts_from) (cond (ltb (n - sets_from) e.sets) (set_as_before i (n - sets_from)) 0)
      (cond (ltb (n - facts_from) e.facts) (fact_as_before i (e.fact (n - facts_from))) 0))

  pub numbers_as_before : numbers e 0 ≡ plain_numbers e
  numbers_as_before i = table (number_as_before i) list_length

-- the walk with no interruption
visits_of : List ℕ → List Event
visits_of [] = []
visits_of (v ∷ w) = visit v ∷ visits_of w

walk_of_lem : (w : List ℕ) → walk_of (visits_of w) ≡ w
unfolding visits_of
walk_of_lem [] = refl
walk_of_lem (v ∷ w) = ap {B = List ℕ} (λ x. v ∷ x) (walk_of_lem w)

none_placed : (w : List ℕ) → interruptions (visits_of w) ≡ 0
unfolding visits_of
none_placed [] = refl
none_placed (v ∷ w) = none_placed w

module _ (e : Case) where
  run_plain : (r : List Event) (c : Content) (left : ℕ → Content) → interruptions r ≤ 0 → run e c left r ≡ plain_run e c (walk_of r)
  unfolding run plain_run
  run_plain [] c left h = refl
  run_plain (visit v ∷ r) c left h = ap (λ (x : List Fetch). fetched e c v ++ x) (run_plain r (visited e c v) left h)
  run_plain (interruption ∷ r) c left h = absurd (omega arith)

  module _ (numbers : List ℕ) where
    -- fewer interruptions are less to hold for
    pub holds_fewer : (p q : ℕ) → q ≤ p → Holds e p numbers → Holds e q numbers
    holds_fewer p q h holds r walk kept few = holds r walk kept (le_trans few h)

    holds_before : Holds e 0 numbers → HoldsPlainly e numbers
    holds_before holds w walk kept c legal =
        let r = visits_of w in
        let z = walk_of_lem w in
        let few : interruptions r ≤ 0 = omega (arith, none_placed w) in
        subst (λ (x : List ℕ). BoundsHold e numbers (plain_run e c x)) z
        (subst (BoundsHold e numbers) (run_plain r c (λ i. c) few)
        (holds r (subst (Walk e) (sym z) walk) (subst (KeepsLimits e) (sym z) kept) few c legal (λ i. c) (λ i h. legal)))

    before_holds : HoldsPlainly e numbers → Holds e 0 numbers
    before_holds before r walk kept few c legal left legals = rw (run_plain r c left few) (before (walk_of r) walk kept c legal)

    pub holds_as_before : Holds e 0 numbers ↔ HoldsPlainly e numbers
    holds_as_before = (holds_before, before_holds)
