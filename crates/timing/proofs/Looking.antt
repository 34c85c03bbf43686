-- What the tables of steps and times say of a node: where its step begins, how long it takes, and its number.
use Prim.Native.Nat.{ℕ, suc, ◌+◌, ◌≤◌, ◌<◌, min}
use native.Mathlib.Omega.{arith}
use mathlib.Core.Path.{◌≡◌, refl}
use mathlib.Core.Logic.{◌≢◌, ⊎_elim}
use borrow.Author.Tests.{lt-ltb, le-ltb, ne_eqb}
use Rattle.paper.specs.Cases.{Case}
use Rattle.paper.specs.Times.{step_loop, step_first, step_time}
use Rattle.paper.proofs.TimeLaws.{step_of, free_outer, held_outer}
use Rattle.timing.specs.Pushed.{number_by, carried}

module _ (e : Case) (k v : ℕ) where
  -- a step is one of the loops from number k on
  pub loop_from : step_loop e k v < e.loops → k ≤ step_loop e k v
  loop_from h =
      ⊎_elim (λ f. absurd (omega (arith, free_outer e k v f))) (λ r. omega (arith, held_outer e k v r.0 r.1, r.1.from)) (step_of e k v)

  -- s is what the table of steps has
  module _ (s : ℕ) (is : s ≡ step_loop e k v) where
    pub first_loop : s < e.loops → (r : ℕ) → r ≡ (e.loop s).first → r ≡ step_first e k v
    unfolding step_first
    first_loop h r z = rw (← is, lt-ltb s e.loops h) z

    pub first_node : e.loops ≤ s → v ≡ step_first e k v
    unfolding step_first
    first_node h = rw (← is, le-ltb s e.loops h) refl

    module _ (cost t : ℕ → ℕ) where
      pub time_loop : s < e.loops → (r : ℕ) → r ≡ t s → r ≡ step_time e cost t k v
      unfolding step_time
      time_loop h r z = rw (← is, lt-ltb s e.loops h) z

      pub time_node : e.loops ≤ s → (r : ℕ) → r ≡ cost v → r ≡ step_time e cost t k v
      unfolding step_time
      time_node h r z = rw (← is, le-ltb s e.loops h) z

module _ (e : Case) (cost t : ℕ → ℕ) (K k : ℕ) (w : ℕ → ℕ) (v : ℕ) where
  -- b is what comes before the step
  module _ (s b : ℕ) (first : s ≡ step_first e k v) (is : b ≡ w s) where
    pub number_none : b ≡ 0 → 0 ≡ number_by e cost t K k w v
    unfolding number_by
    number_none z = rw (← first, ← is, z) refl

    pub number_some : b ≢ 0 → (x r : ℕ) → x ≡ step_time e cost t k v → r ≡ min (b + x) (suc K) → r ≡ number_by e cost t K k w v
    unfolding number_by
    number_some z x r time q = rw (← first, ← is, ne_eqb b 0 z, ← time) q

  -- a number is made of what comes before its step
  pub number_same : (y : ℕ → ℕ) → w (step_first e k v) ≡ y (step_first e k v) → number_by e cost t K k w v ≡ number_by e cost t K k y v
  unfolding number_by
  number_same y z = rw z refl

  pub carried_on : (u r : ℕ) → v < u → r ≡ number_by e cost t K k w v → r ≡ carried e cost t K k w v u
  unfolding carried
  carried_on u r h z = rw (lt-ltb v u h) z

  pub carried_back : (u : ℕ) → u ≤ v → 0 ≡ carried e cost t K k w v u
  unfolding carried
  carried_back u h = rw (le-ltb v u h) refl
