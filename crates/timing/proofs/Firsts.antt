-- Which step has a node, as loops become steps from the last to the first; and a step's first node, which is in the same step.
use Prim.Native.Nat.{ℕ, suc, ◌≤◌, ◌<◌}
use native.Mathlib.Omega.{arith}
use native.Mathlib.Decide.{ℕ_discrete}
use mathlib.Core.Path.{◌≡◌, refl, sym, ◌∙◌}
use mathlib.Core.Logic.{⊎_elim}
use Rattle.paper.specs.Cases.{Case}
use Rattle.paper.specs.Known.{Shaped}
use Rattle.paper.specs.Times.{step_loop, step_first, step_time}
use Rattle.paper.proofs.Meaning.{In}
use Rattle.paper.proofs.TimeLaws.{Free, Held, step_of, free_outer, held_outer, free_first, held_first, held_time}

module _ (e : Case) where
  -- no loop is a step
  pub loop_none : (v : ℕ) → step_loop e e.loops v ≡ e.loops
  loop_none v = free_outer e e.loops v (λ j a b o. omega arith)

  module _ (n : ℕ) (below : n < e.loops) (v : ℕ) where
    pub loop_in_lem : In (e.loop n) v → step_loop e n v ≡ n
    loop_in_lem i = held_outer e n v n (record { from = omega arith; below = below; has = i; first = λ j a b q. omega arith })

    pub loop_out : ¬ In (e.loop n) v → step_loop e n v ≡ step_loop e (suc n) v
    loop_out o =
        ⊎_elim
        (λ f. free_outer e n v (free f) ∙ sym (free_outer e (suc n) v f))
        (λ r. held_outer e n v r.0 (held r.0 r.1) ∙ sym (held_outer e (suc n) v r.0 r.1))
        (step_of e (suc n) v)
      where
        free : Free e (suc n) v → Free e n v
        free f j a b i = elim (ℕ_discrete n j) [ yes q ↦ o (rw q i) | no q ↦ f j (omega arith) b i ]

        held : (j : ℕ) → Held e (suc n) v j → Held e n v j
        held j h =
            record {
              from = omega (arith, h.from);
              below = h.below;
              has = h.has;
              first = λ i a b q. elim (ℕ_discrete n i) [ yes z ↦ o (rw z q) | no z ↦ h.first i (omega arith) b q ];
            }

  module _ (k v : ℕ) where
    pub first_le : step_first e k v ≤ v
    first_le =
        ⊎_elim (λ f. omega (arith, free_first e k v f)) (λ r. omega (arith, held_first e k v r.0 r.1, r.1.has)) (step_of e k v)

    module _ (shape : Shaped e) where
      -- the header of the loop that is the step
      header : (j : ℕ) → Held e k v j → Held e k (e.loop j).first j
      header j h =
          record {
            from = h.from;
            below = h.below;
            has = omega (arith, shape.fits j h.below);
            first = λ i a b q. h.first i a b (omega (arith, h.has, q, shape.nested i j b h.below q.1));
          }

      pub first_first : step_first e k (step_first e k v) ≡ step_first e k v
      first_first =
          ⊎_elim (λ f. rw (free_first e k v f) (free_first e k v f))
          (λ r. rw (held_first e k v r.0 r.1) (held_first e k (e.loop r.0).first r.0 (header r.0 r.1))) (step_of e k v)

      pub first_time : (cost t : ℕ → ℕ) → step_time e cost t k (step_first e k v) ≡ step_time e cost t k v
      first_time cost t =
          ⊎_elim (λ f. rw (free_first e k v f) refl)
          (λ r.
          rw (held_first e k v r.0 r.1)
          (held_time e k (e.loop r.0).first r.0 (header r.0 r.1) cost t ∙ sym (held_time e k v r.0 r.1 cost t))) (step_of e k v)
