-- The paper's run of a walk, on eight lines and a byte of bits, misses where the run in the machine on k lines does.
use Prim.Native.Nat.{ℕ, suc, ◌+◌, ◌%◌, ◌<◌}
use native.Mathlib.Omega.{arith}
use native.Mathlib.Nat.{mod-lt}
use mathlib.Core.Path.{◌≡◌, refl, ◌∙◌, ap}
use mathlib.Core.Logic.{◌≢◌}
use mathlib.Core.Bool.{Bool, true, false, not, ◌&&◌, cond}
use mathlib.Core.List.{List, [], ◌∷◌, ◌++◌}
use lib.Dec.{eqb}
use Rattle.paper.specs.declared.SetState.{SetState}
use Rattle.paper.specs.Lists.{bit}
use Rattle.paper.specs.Machines.{none, step}
use Rattle.paper.specs.Traces.{Content, after, miss_at}
use Rattle.paper.specs.Cases.{Case}
use Rattle.paper.specs.Runs.{LegalSet, Event, visit, interruption, interruptions, Fetch, visited, fetched, run, misses}
use Rattle.paper.specs.Bounds.{lives}
use Rattle.paper.proofs.Says.{Says, holds, fails, says_eq}
use Rattle.theory.proofs.Law.{Machine}
use Rattle.theory.proofs.View.{View, board}
use Rattle.theory.proofs.Costs.{paid}
use Rattle.theory.proofs.Moves.{Held, moved, move}
use Rattle.theory.proofs.Moves as Moves

module _ (e : Case) (sets : 0 < e.sets) (N : Machine) (shown : View (board e.policy e.ways) N) where
  -- a state is legal, and shows the other
  abbrev Shows : SetState → N.State → Type 0
  Shows s u = LegalSet e.policy e.ways s × (shown.view s ≡ u)

  abbrev Seen : Content → Held e N → Type 0
  Seen c d = (q : ℕ) → q < e.sets → Shows (c q) (d q)

  module _ (v : ℕ) (c : Content) (d : Held e N) (h : Seen c d) where
    abbrev b : ℕ
    b = e.block v

    seen_after : Seen (visited e c v) (move e N v d)
    unfolding visited after moved lives
    seen_after q l = go (eqb b none)
      where
        at : (g : Bool) → Shows (cond g (step e.policy e.ways (c q) b).state (c q)) (cond g (N.step b (d q)) (d q))
        at true = let (lg, z) = h q l in (shown.kept b (c q) lg, shown.step b (c q) lg ∙ ap (N.step b) z)
        at false = h q l

        go : (t : Bool) → Shows (cond t c (after e.policy e.ways e.sets c b) q) (cond (not t && eqb (b % e.sets) q) (N.step b (d q)) (d q))
        go true = h q l
        go false = at (eqb (b % e.sets) q)

    same_miss : bit (miss_at e.policy e.ways e.sets c b) ≡ N.miss b (d (b % e.sets))
    unfolding miss_at
    same_miss =
        let (lg, z) = h (b % e.sets) (mod-lt b sets) in
        shown.miss b (c (b % e.sets)) lg ∙ ap (N.miss b) z

  -- the run's fetches that pass a test, and the visits of the nodes that pass
  module _ (test : Fetch → Bool) (node : ℕ → Bool)
      (agree : (v : ℕ) (m : Bool) → e.block v ≢ none → test (record { node = v; block = e.block v; miss = m }) ≡ node v) where
    one : (v : ℕ) (c : Content) (d : Held e N) (r : List Fetch) → Seen c d → misses test (fetched e c v ++ r) ≡ cond (node v) (Moves.miss_at e N v d) 0 + misses test r
    unfolding fetched misses Moves.miss_at
    one v c d r h = go (says_eq (e.block v) none)
      where
        bits : (t m : Bool) → bit (t && m) ≡ cond t (bit m) 0
        bits true m = refl
        bits false m = refl

        nothing : (t : Bool) → ◌≡◌ {A = ℕ} (cond t 0 0) 0
        nothing true = refl
        nothing false = refl

        miss : Bool
        miss = miss_at e.policy e.ways e.sets c (e.block v)

        go : {t : Bool} → Says (e.block v ≡ none) t →
            misses test (cond t [] (record { node = v; block = e.block v; miss = miss } ∷ []) ++ r)
            ≡ cond (node v) (cond t 0 (N.miss (e.block v) (d (e.block v % e.sets)))) 0 + misses test r
        go (holds p) = omega (arith, nothing (node v))
        go (fails n) = rw (agree v miss n, bits (node v) miss, same_miss v c d h) refl

    pub run_seen :
        (r : List Event) (c : Content) (left : ℕ → Content) (d : Held e N) (after : ℕ → Held e N) → Seen c d → ((i : ℕ) → i < interruptions r → Seen (left i) (after i))
        → misses test (run e c left r) ≡ paid node (Moves.misses e N r d after)
    unfolding run misses
    run_seen [] c left d after h g = refl
    run_seen (visit v ∷ r) c left d after h g =
        one v c d (run e (visited e c v) left r) h
        ∙ ap (λ (x : ℕ). cond (node v) (Moves.miss_at e N v d) 0 + x) (run_seen r (visited e c v) left (move e N v d) after (seen_after v c d h) g)
    run_seen (interruption ∷ r) c left d after h g = run_seen r (left 0) (λ i. left (suc i)) (after 0) (λ i. after (suc i)) (g 0 (omega arith)) (λ i l. g (suc i) (omega arith))
