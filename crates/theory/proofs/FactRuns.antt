-- A fact in the run of a walk, in any machine that has a law: c times its misses are at most a times the lesser of E + p and N, and d times N,
-- where E are its entries, N its fetches and p the interruptions.
use Prim.Native.Nat.{ℕ, zero, suc, ◌+◌, ◌-◌, ◌*◌, ◌%◌, ◌≤◌, ◌<◌, min}
use native.Mathlib.Omega.{arith}
use native.Mathlib.Decide.{dec_le}
use native.Mathlib.Nat.{mod-lt, le_trans, mul-le-mul_left, mul-le-mul_right}
use mathlib.Core.Path.{◌≡◌, refl, sym, ◌∙◌, ap}
use mathlib.Core.Logic.{◌≢◌}
use mathlib.Core.Bool.{Bool, false, cond}
use mathlib.Core.Option.{Option, none, some}
use mathlib.Core.List.{List, [], ◌∷◌}
use Rattle.paper.specs.declared.Loop.{Loop}
use Rattle.paper.specs.Lists.{bit}
use Rattle.paper.specs.Machines as Machines
use Rattle.paper.specs.Cases.{Fact, Case, unlimited, range_of, scope_of}
use Rattle.paper.specs.Graphs.{entries_of, entries}
use Rattle.paper.specs.Walks.{Step, Walk, KeepsLimits}
use Rattle.paper.specs.Runs.{Event, visit, interruption, walk_of, interruptions}
use Rattle.paper.specs.Bounds.{covers, counts, entered}
use Rattle.paper.proofs.Says.{Says, holds, fails, says_eq, says_not, says_and}
use Rattle.paper.proofs.GraphLaws.{inside_says}
use Rattle.paper.proofs.Meaning.{In, SoundFact, Sound}
use Rattle.theory.proofs.Ranges.{some_set}
use Rattle.theory.proofs.Tests.{bit_low, bit_le}
use Rattle.theory.proofs.Tally.{begins, stays, tally_le, tally_none}
use Rattle.theory.proofs.Counting.{stays_le_entries}
use Rattle.theory.proofs.Costs.{paid}
use Rattle.theory.proofs.Passing.{passing_le_counts}
use Rattle.theory.proofs.Law.{Machine, Fair, Law}
use Rattle.paper.proofs.TestLaws.{covers_says}
use Rattle.theory.proofs.Moves.{Held, Fine, Contents, move, miss_at, misses, costs, misses_le, move_fine, miss_at_lem}
use Rattle.theory.proofs.Since.{since, Taken, missed, fact_pays}

module _ (e : Case) (M : Machine) (t : Fact) where
  -- the states of the fact's set along the walk
  states : List Event → Held e M → (ℕ → Held e M) → ℕ → M.State
  states r c left zero = c (t.block % e.sets)
  states [] c left (suc i) = c (t.block % e.sets)
  states (visit v ∷ r) c left (suc i) = states r (move e M v c) left i
  states (interruption ∷ r) c left (suc i) = states r (left 0) (λ j. left (suc j)) i

  taken :
      1 ≤ e.sets → Fair M → (known : Bool) (r : List Event) (c : Held e M) (left : ℕ → Held e M) → Fine e M c → ((i : ℕ) → i < interruptions r → Fine e M (left i))
      → Taken e M t known r (states r c left)
  unfolding states
  taken sets fair known [] c left h g = tt
  taken sets fair known (visit v ∷ r) c left h g =
      (h (t.block % e.sets) (mod-lt t.block sets), λ k. refl, taken sets fair (since e M t known v) r (move e M v c) left (move_fine e M fair v c h) g)
  taken sets fair known (interruption ∷ r) c left h g = taken sets fair false r (left 0) (λ i. left (suc i)) (g 0 (omega arith)) (λ i l. g (suc i) (omega arith))

  same_missed :
      t.block ≢ Machines.none → (r : List Event) (c : Held e M) (left : ℕ → Held e M)
      → missed e M t r (states r c left) ≡ paid (covers e t) (misses e M r c left)
  unfolding states
  same_missed real [] c left = refl
  same_missed real (interruption ∷ r) c left = same_missed real r (left 0) (λ i. left (suc i))
  same_missed real (visit v ∷ r) c left = omega (arith, one (covers_says e t v), same_missed real r (move e M v c) left)
    where
      one : {g : Bool} → Says (In (scope_of e t) v × (e.block v ≡ t.block)) g → cond g (M.miss t.block (c (t.block % e.sets))) 0 ≡ cond g (miss_at e M v c) 0
      one (holds h) = sym (miss_at_lem e M v c (rw h.1 real) ∙ ap (λ (b : ℕ). M.miss b (c (b % e.sets))) h.1)
      one (fails n) = refl

-- "N may now be below E": then each of F accesses, N at most, is paid as a first one
lesser : (c a d F E N : ℕ) → c ≤ a + d → F ≤ N → c * F ≤ a * E + d * N → c * F ≤ a * min E N + d * N
lesser c a d F E N enough few h =
    elim (dec_le E N) [
      | yes l ↦ let z : min E N ≡ E = omega arith in rw z h
      | no l ↦ let z : min E N ≡ N = omega arith in rw z (omega (arith, mul-le-mul_left c few, mul-le-mul_right N enough))
    ]

module _ (e : Case) (s : Sound e) (w : List ℕ) (walk : Walk e w) (kept : KeepsLimits e w) where
  abbrev whole : Loop
  whole = record { first = 0; last = e.nodes - 1; bound = 1; visits = unlimited }

  -- "the whole graph with one entry"
  whole_once : stays whole w ≤ 1
  whole_once = omega (arith, tally_none none w, tally_le e (begins whole) (λ p v. false) credit step none w walk)
    where
      credit : Option ℕ → ℕ
      credit none = 1
      credit (some u) = 0

      step : (p : Option ℕ) (v : ℕ) → Step e p v → bit (begins whole p v) + credit (some v) ≤ 0 + credit p
      step none v d = omega (arith, bit_low (begins whole none v))
      step (some u) v d =
          omega (
            arith,
            bit_le {k = 0} (says_and (inside_says whole v) (says_not (inside_says whole u))) (λ (i : In whole v × (¬ In whole u)).
                absurd (i.1 (omega (arith, s.graph.ends u v d)))),
          )

  stays_scope : (t : Fact) → SoundFact e t → stays (scope_of e t) w ≤ entries e t
  unfolding range_of entries
  stays_scope t h = go (says_eq t.scope Machines.none)
    where
      go : {b : Bool} → Says (t.scope ≡ Machines.none) b → stays (cond b whole (e.loop t.scope)) w ≤ cond b 1 (entries_of e (e.loop t.scope))
      go (holds p) = whole_once
      go (fails n) = stays_le_entries e s.graph w walk kept t.scope (h.head.scope n)

module _ (e : Case) (s : Sound e) (p : ℕ) (r : List Event) (walk : Walk e (walk_of r)) (kept : KeepsLimits e (walk_of r)) (few : interruptions r ≤ p) where
  module _ (M : Machine) (t : Fact) (h : SoundFact e t) (c a d : ℕ) (L : Law M t.block (t.limit - 1) c a d) where
    -- whatever legal states the set is put into while nothing is known since b
    taken_bound : (σ : ℕ → M.State) → Taken e M t false r σ → c * missed e M t r σ ≤ a * (entries e t + p) + d * counts e (covers e t)
    taken_bound σ z =
        let most : stays (scope_of e t) (walk_of r) + interruptions r ≤ entries e t + p = omega (arith, stays_scope e s (walk_of r) walk kept t h) in
        omega (
          arith,
          fact_pays e M t h.head.block h.evidence c a d L r σ z walk,
          mul-le-mul_left a most,
          mul-le-mul_left d (passing_le_counts e s.graph s.nodes (covers e t) (walk_of r) walk kept),
        )

  pub law_bound :
      (M : Machine) → Fair M → (g : Contents e M r) (t : Fact) → SoundFact e t → (c a d : ℕ) → Law M t.block (t.limit - 1) c a d
      → c * paid (covers e t) (costs e M r g) ≤ a * entered e p t + d * counts e (covers e t)
  unfolding entered
  law_bound M fair g t h c a d L =
      lesser c a d _ (entries e t + p) _ L.enough
      (le_trans (misses_le e M fair (covers e t) r g.start g.left) (passing_le_counts e s.graph s.nodes (covers e t) (walk_of r) walk kept))
      (rw (← same_missed e M t h.head.block r g.start g.left)
      (taken_bound M t h c a d L (states e M t r g.start g.left) (taken e M t (some_set e s) fair false r g.start g.left g.fine g.fines)))
