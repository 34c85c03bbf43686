-- Demand 3, first half: on every walk that keeps the limits, interrupted at most p times, from every legal content and with any left by each interruption, each fact, each set and
-- all of them miss at most as often as the numbers printed say.
use Prim.Native.Nat.{ℕ, ◌≤◌, ◌<◌}
use native.Mathlib.Omega.{arith}
use mathlib.Core.Path.{◌≡◌, refl}
use mathlib.Core.Logic.{◌≢◌}
use mathlib.Core.Bool.{Bool, true, not}
use mathlib.Core.List.{List, ◌++◌}
use borrow.Author.Tests.{ne_eqb}
use lib.Dec.{eqb}
use Rattle.paper.specs.Machines.{none}
use Rattle.paper.specs.Traces.{Content}
use Rattle.paper.specs.Cases.{Case}
use Rattle.paper.specs.Walks.{Walk, KeepsLimits}
use Rattle.paper.specs.Runs.{LegalContent, Event, walk_of, interruptions, Fetch, run, misses, of_fact, of_set}
use Rattle.paper.specs.Bounds.{covers, lives, fact_bound, set_bound, total_bound, numbers}
use Rattle.paper.specs.Demands.{Holds}
use Rattle.paper.proofs.Meaning.{Sound}
use Rattle.theory.proofs.Law.{Machine}
use Rattle.theory.proofs.Policies.{ideal, Offer, offer}
use Rattle.theory.proofs.View.{View, board, view_of}
use Rattle.theory.proofs.Ranges.{is_offered, some_set, few_sets}
use Rattle.theory.proofs.Costs.{paid}
use Rattle.theory.proofs.Moves.{in_set, Held, Fine, Contents, costs}
use Rattle.theory.proofs.FactBounds.{fact_bounded}
use Rattle.theory.proofs.SetBounds.{set_bounded, all_bounded}
use Rattle.theory.proofs.Printed.{total_printed, set_printed, fact_printed}
use Rattle.theory.proofs.Seen.{run_seen}

module _ (e : Case) (s : Sound e) (p : ℕ) (r : List Event) (walk : Walk e (walk_of r)) (kept : KeepsLimits e (walk_of r)) (few : interruptions r ≤ p)
    (c : Content) (legal : LegalContent e c) (left : ℕ → Content) (legals : (i : ℕ) → i < interruptions r → LegalContent e (left i)) where
  abbrev o : Offer e.policy e.ways
  o = offer e.policy e.ways (is_offered e s)

  abbrev N : Machine
  N = ideal o.policy e.ways

  abbrev shown : View (board e.policy e.ways) N
  shown = view_of o.policy e.policy e.ways o.is (is_offered e s)

  abbrev seen : Content → Held e N
  seen c q = shown.view (c q)

  fine : (c : Content) → LegalContent e c → Fine e N (seen c)
  fine c legal q l = shown.legal (c q) (legal q l)

  abbrev d : Contents e N r
  d = record { start = seen c; left = λ i. seen (left i); fine = fine c legal; fines = λ i l. fine (left i) (legals i l) }

  as_shown : (test : Fetch → Bool) (node : ℕ → Bool) →
      ((v : ℕ) (m : Bool) → e.block v ≢ none → test (record { node = v; block = e.block v; miss = m }) ≡ node v) →
      misses test (run e c left r) ≡ paid node (costs e N r d)
  as_shown test node agree = run_seen e (some_set e s) N shown test node agree r c left d.start d.left (λ q l. (legal q l, refl)) (λ i h q l. (legals i h q l, refl))

  pub fact_holds : (i : ℕ) → i < e.facts → misses (of_fact e (e.fact i)) (run e c left r) ≤ fact_bound e p (e.fact i)
  unfolding of_fact covers
  fact_holds i l =
      rw (as_shown (of_fact e (e.fact i)) (covers e (e.fact i)) (λ v m n. refl))
      (fact_bounded e s p r walk kept few (e.fact i) (s.facts i l) o.policy o.is o.enough d)

  pub set_holds : (q : ℕ) → q < e.sets → misses (of_set e q) (run e c left r) ≤ set_bound e p q
  unfolding of_set lives
  set_holds q l =
      rw (as_shown (of_set e q) (in_set e q) (λ v m n. rw (ne_eqb (e.block v) none n) refl))
      (set_bounded e s p r walk kept few o.policy o.is o.enough d q l)

  pub total_holds : misses (λ a. true) (run e c left r) ≤ total_bound e p
  total_holds =
      rw (as_shown (λ a. true) (λ v. not (eqb (e.block v) none)) (λ v m n. rw (ne_eqb (e.block v) none n) refl))
      (all_bounded e s p r walk kept few o.policy o.is o.enough d)

pub bounds_hold : (e : Case) → Sound e → e.facts ≤ 256 → (p : ℕ) (rest : List ℕ) → Holds e p (numbers e p ++ rest)
bounds_hold e s most p rest r walk kept few c legal left legals =
    record {
      total = rw (total_printed e p rest) (total_holds e s p r walk kept few c legal left legals);
      set = λ q l. rw (set_printed e p rest q (omega (arith, few_sets e s)) l) (set_holds e s p r walk kept few c legal left legals q l);
      fact = λ i l. rw (fact_printed e p rest i (omega arith) l) (fact_holds e s p r walk kept few c legal left legals i l);
    }
