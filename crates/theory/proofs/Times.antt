-- "For every walk of demand 3, the sum of its node costs and penalties is no larger." Loop by loop, from the last to the first, what the visits of its nodes pay is
-- replaced by the loop's time, paid once a stay.
use Prim.Native.Nat.{ℕ, zero, suc, ◌+◌, ◌*◌, ◌≤◌, ◌<◌}
use native.Mathlib.Omega.{arith}
use native.Mathlib.Decide.{ℕ_discrete}
use native.Mathlib.Nat.{mul-add, mul-le-mul_left}
use mathlib.Core.Path.{◌≡◌, refl, sym, ◌∙◌, ap}
use mathlib.Core.Logic.{⊎_elim}
use mathlib.Core.Bool.{Bool, true, cond, ◌&&◌}
use mathlib.Core.Option.{Option, none, some}
use mathlib.Core.List.{List, [], ◌∷◌}
use Rattle.paper.specs.Lists.{bit}
use Rattle.paper.specs.Cases.{Case}
use Rattle.paper.specs.Walks.{Walk, KeepsLimits, outside}
use Rattle.paper.specs.Runs.{walk_of, run, misses}
use Rattle.paper.specs.Times.{spent, time_of, longest, graph_time, TimeHolds}
use Rattle.paper.specs.Bounds.{total_bound}
use Rattle.paper.proofs.Says.{Says, holds, fails}
use Rattle.paper.proofs.Meaning.{In, SoundGraph, Sound}
use Rattle.paper.proofs.GraphLaws.{inside_says}
use Rattle.paper.proofs.TimeLaws.{Free, Held, step_of, time_is}
use Rattle.theory.proofs.Tally.{tally, begins, stays}
use Rattle.theory.proofs.Limits.{visits_stays}
use Rattle.theory.proofs.Paying.{along, pays, free_pays, held_pays, pays_in}
use Rattle.theory.proofs.Rounds.{round, loop_pays, graph_pays}
use Rattle.theory.proofs.Demand.{total_holds}

module _ (e : Case) (cost : ℕ → ℕ) where
  -- where no loop is a step, each visit pays its cost
  along_spent : (t : ℕ → ℕ) (p : Option ℕ) (w : List ℕ) → along (pays e cost t e.loops) p w ≡ spent cost w
  along_spent t p [] = refl
  along_spent t p (v ∷ w) =
      let z : Free e e.loops v = λ j a b o. omega arith in
      omega (arith, free_pays e cost t e.loops p v z, along_spent t (some v) w)

  module _ (t : ℕ → ℕ) (n : ℕ) (below : n < e.loops) where
    -- a node outside loop n is in the same step, whether or not loop n is one
    outside_same : (p : Option ℕ) (v : ℕ) → ¬ In (e.loop n) v → pays e cost t (suc n) p v ≡ pays e cost t n p v
    outside_same p v o =
        ⊎_elim
        (λ f. free_pays e cost t (suc n) p v f ∙ sym (free_pays e cost t n p v (free f)))
        (λ r. held_pays e cost t (suc n) p v r.0 r.1 ∙ sym (held_pays e cost t n p v r.0 (held r.0 r.1)))
        (step_of e (suc n) v)
      where
        free : Free e (suc n) v → Free e n v
        free f j a b i = elim (ℕ_discrete n j) [ yes q ↦ o (rw q i) | no q ↦ f j (omega arith) b i ]

        held : (j : ℕ) → Held e (suc n) v j → Held e n v j
        held j h =
            record {
              from = omega (arith, h.from);
              below = h.below;
              has = h.has;
              first = λ i a b q. elim (ℕ_discrete n i) [ yes z ↦ o (rw z q) | no z ↦ h.first i (omega arith) b q ];
            }

    -- a node of loop n is in the step that is loop n
    inside_held : (v : ℕ) → In (e.loop n) v → Held e n v n
    inside_held v i = record { from = omega arith; below = below; has = i; first = λ j a b q. omega arith }

    -- Loop n becomes a step: its time is paid when a stay begins, and what the visits inside paid is not paid.
    one_step :
        (p : Option ℕ) (v : ℕ)
        → pays e cost t (suc n) p v + t n * bit (begins (e.loop n) p v) ≤ pays e cost t n p v + pays_in e cost t n p v
    one_step p v = go (inside_says (e.loop n) v)
      where
        go :
            {b : Bool} → Says (In (e.loop n) v) b
            → pays e cost t (suc n) p v + t n * bit (b && outside (e.loop n) p) ≤ pays e cost t n p v + cond b (pays e cost t (suc n) p v) 0
        go (holds i) = omega (arith, held_pays e cost t n p v n (inside_held v i))
        go (fails o) = omega (arith, outside_same p v o)

    one_along :
        (p : Option ℕ) (w : List ℕ)
        → along (pays e cost t (suc n)) p w + t n * tally (begins (e.loop n)) p w
        ≤ along (pays e cost t n) p w + along (pays_in e cost t n) p w
    one_along p [] = omega arith
    one_along p (v ∷ w) =
        rw (mul-add (t n) (bit (begins (e.loop n) p v)) (tally (begins (e.loop n)) (some v) w)) (omega (arith, one_step p v, one_along (some v) w))

module _ (e : Case) (s : SoundGraph e) (cost : ℕ → ℕ) (w : List ℕ) (walk : Walk e w) (kept : KeepsLimits e w) where
  -- the limits: what is paid inside loop n is at most its time for each stay
  stays_pay :
      (n : ℕ) → n < e.loops
      → along (pays_in e cost (time_of e cost) n) none w ≤ time_of e cost n * stays (e.loop n) w
  stays_pay n h =
      omega (
        arith,
        loop_pays e s cost (time_of e cost) n h w walk,
        mul-le-mul_left (round e s cost (time_of e cost) n h) (visits_stays (e.loop n) (s.fits n h).0 w (kept.in_stay n h)),
        ap (λ x. x * stays (e.loop n) w) (time_is e cost n h),
      )

  -- loops from n on taken as steps pay no more than all loops taken as steps
  steps_pay : (n : ℕ) → n ≤ e.loops → along (pays e cost (time_of e cost) n) none w ≤ along (pays e cost (time_of e cost) 0) none w
  steps_pay zero h = omega arith
  steps_pay (suc n) h =
      omega (arith, steps_pay n (omega arith), one_along e cost (time_of e cost) n h none w, stays_pay n h)

  pub spent_le : 1 ≤ e.nodes → spent cost w ≤ longest e cost
  unfolding longest time_of
  spent_le some_node =
      omega (arith, along_spent e cost (time_of e cost) none w, steps_pay e.loops (omega arith), graph_pays e s some_node cost (time_of e cost) w walk)

  -- and misses that are bounded add their penalties
  pub time_le : 1 ≤ e.nodes → (penalty n total : ℕ) → n ≤ total → spent cost w + penalty * n ≤ graph_time e cost penalty total
  unfolding graph_time
  time_le some_node penalty n total h = omega (arith, spent_le some_node, mul-le-mul_left penalty h)

pub time_holds : (e : Case) → Sound e → (p : ℕ) (cost : ℕ → ℕ) (penalty : ℕ) → TimeHolds e p cost penalty (graph_time e cost penalty (total_bound e p))
time_holds e s p cost penalty r walk kept few c legal left legals =
    time_le e s.graph cost (walk_of r) walk kept s.nodes penalty (misses (λ a. true) (run e c left r)) (total_bound e p)
    (total_holds e s p r walk kept few c legal left legals)
