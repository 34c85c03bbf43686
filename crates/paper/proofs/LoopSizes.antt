-- A loop's record in each version: how long it is, how many numbers it has, that loop after loop fits before the facts, and what is read of W.
use Prim.Native.Nat.{ℕ, suc, ◌+◌, ◌*◌, ◌≤◌, ◌<◌}
use native.Mathlib.Omega.{arith}
use native.Mathlib.Decide.{ℕ_discrete}
use native.Mathlib.Nat.{mul-suc, mul-le-mul_left}
use mathlib.Core.Path.{◌≡◌, refl, ap}
use mathlib.Core.Logic.{◌≢◌}
use borrow.Author.Tests.{eq-eqb, ne_eqb}
use Rattle.paper.specs.Cases.{unlimited}
use Rattle.paper.specs.Records.{without_w, widest_loop, size_of, visits_field, loop_fields, loop_size}
use Rattle.paper.specs.Files.{visits_by}
use Rattle.paper.specs.Writing.{per_loop}

-- record j of n ends where they all end at the latest
pub record_ends : (p j n : ℕ) → j < n → p * j + p ≤ p * n
record_ends p j n h =
    let next : suc j ≤ n = omega arith in
    omega (arith, mul-suc p j, mul-le-mul_left p next)

module _ (version : ℕ) where
  pub size_without : version ≡ without_w → loop_size version ≡ visits_field
  unfolding loop_size loop_fields
  size_without h = rw (eq-eqb version without_w h) refl

  pub size_with : version ≢ without_w → loop_size version ≡ size_of widest_loop
  unfolding loop_size loop_fields
  size_with h = rw (ne_eqb version without_w h) refl

  -- there is room for all but W in both versions
  pub size_low : visits_field ≤ loop_size version
  size_low = elim (ℕ_discrete version without_w) [ yes h ↦ omega (arith, size_without h) | no h ↦ omega (arith, size_with h) ]

  pub size_high : loop_size version ≤ size_of widest_loop
  size_high = elim (ℕ_discrete version without_w) [ yes h ↦ omega (arith, size_without h) | no h ↦ omega (arith, size_with h) ]

  -- "version 1 content carries no W"
  pub per_without : version ≡ without_w → per_loop version ≡ 3
  unfolding per_loop loop_fields
  per_without h = rw (eq-eqb version without_w h) refl

  pub per_with : version ≢ without_w → per_loop version ≡ 4
  unfolding per_loop loop_fields
  per_with h = rw (ne_eqb version without_w h) refl

  pub per_low : 3 ≤ per_loop version
  per_low = elim (ℕ_discrete version without_w) [ yes h ↦ omega (arith, per_without h) | no h ↦ omega (arith, per_with h) ]

  pub loop_ends : (j n : ℕ) → j < n → loop_size version * j + loop_size version ≤ loop_size version * n
  loop_ends j n h = record_ends (loop_size version) j n h

  -- "Version 1 is read as without W"
  pub visits_without : (W : ℕ) → version ≡ without_w → visits_by version W ≡ unlimited
  unfolding visits_by
  visits_without W h = rw (eq-eqb version without_w h) refl

  pub visits_with : (W : ℕ) → version ≢ without_w → visits_by version W ≡ W
  unfolding visits_by
  visits_with W h = rw (ne_eqb version without_w h) refl

  pub visits_low : (W : ℕ) → W ≤ unlimited → visits_by version W ≤ unlimited
  visits_low W h = elim (ℕ_discrete version without_w) [ yes p ↦ omega (arith, visits_without W p) | no n ↦ omega (arith, visits_with W n) ]

  -- what stands where no W does plays no part
  pub visits_same : (W W' : ℕ) → (version ≢ without_w → W ≡ W') → visits_by version W ≡ visits_by version W'
  visits_same W W' h =
      elim (ℕ_discrete version without_w) [
        | yes p ↦ rw (visits_without W p, visits_without W' p) refl
        | no n ↦ ap (visits_by version) (h n)
      ]
