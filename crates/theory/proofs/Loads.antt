-- The tree's lines by their numbers: what stands below the two sides of a number is apart, and R's blocks below it are those below its sides.
use Prim.Native.Nat.{ℕ, zero, suc, ◌+◌, ◌-◌, ◌*◌, ◌/◌, ◌≤◌}
use mathlib.Core.Path.{◌≡◌, refl, sym, ◌∙◌}
use mathlib.Core.Bool.{cond}
use mathlib.Core.List.{List, [], ◌∷◌}
use native.Mathlib.Decide.{ℕ_discrete}
use native.Mathlib.Omega.{arith}
use borrow.Author.Tests.{eq-eqb, ne_eqb}
use lib.Dec.{eqb}
use lib.ListN.{get_or}
use Rattle.paper.specs.Machines.{none}
use Rattle.paper.specs.Trees.{parent}
use Rattle.paper.proofs.TreeLaws.{above, above_parent, above_le}
use Rattle.theory.proofs.Count.{sum, cnt}
use Rattle.theory.proofs.Pigeon.{known}

-- The sides of p are 2p+1+v and 2p+2-v, for v = 0 or 1. No number is below both.
pub sides_apart : (p v e f u : ℕ) → v ≤ 1 → above e u ≡ 2 * p + 1 + v → above f u ≡ 2 * p + 2 - v → ⊥
unfolding above parent
sides_apart p v zero zero u h a b = omega arith
sides_apart p v zero (suc f) u h a b = omega (arith, above_parent f u, above_le f (parent u))
sides_apart p v (suc e) zero u h a b = omega (arith, above_parent e u, above_le e (parent u))
sides_apart p v (suc e) (suc f) u h a b = sides_apart p v e f (parent u) h (above_parent e u ∙ a) (above_parent f u ∙ b)

-- what is above a number above u is above u
pub higher : (e f u : ℕ) → (g : ℕ) × (above g u ≡ above f (above e u))
unfolding above
higher zero f u = (f, refl)
higher (suc e) f u = let r = higher e (suc f) u in (r.0, r.1 ∙ sym (above_parent f (above e u)))

at_sides : (a p v y : ℕ) → v ≤ 1 → cond (eqb a (2 * p + 1 + v)) y 0 + cond (eqb a (2 * p + 2 - v)) y 0 ≤ cond (eqb (parent a) p) y 0
unfolding parent
at_sides a p v y h =
    elim (ℕ_discrete a (2 * p + 1 + v)) [
      | yes e ↦ rw (eq-eqb a (2 * p + 1 + v) e, ne_eqb a (2 * p + 2 - v) (omega arith), eq-eqb ((a - 1) / 2) p (omega arith)) (omega arith)
      | no n ↦
          elim (ℕ_discrete a (2 * p + 2 - v)) [
            | yes e ↦ rw (ne_eqb a (2 * p + 1 + v) n, eq-eqb a (2 * p + 2 - v) e, eq-eqb ((a - 1) / 2) p (omega arith)) (omega arith)
            | no q ↦ rw (ne_eqb a (2 * p + 1 + v) n, ne_eqb a (2 * p + 2 - v) q) (omega arith)
          ]
    ]

module _ (R : List ℕ) where
  -- R's blocks among the lines l, numbered from i on, that stand d levels below p
  unfoldable pub load : ℕ → ℕ → ℕ → List ℕ → ℕ
  load d p i [] = 0
  load d p i (y ∷ l) = cond (eqb (above d i) p) (known R y) 0 + load d p (suc i) l

  pub load_all : (d p i : ℕ) (l : List ℕ) → load d p i l ≤ sum (known R) l
  unfolding load sum
  load_all d p i [] = omega arith
  load_all d p i (y ∷ l) =
      elim (ℕ_discrete (above d i) p) [
        | yes e ↦ rw (eq-eqb (above d i) p) (omega (arith, load_all d p (suc i) l))
        | no n ↦ rw (ne_eqb (above d i) p) (omega (arith, load_all d p (suc i) l))
      ]

  -- one of R's blocks
  pub load_line : (d p i : ℕ) (l : List ℕ) (j : ℕ) → cnt none R ≡ 0 → above d (i + j) ≡ p → 1 ≤ cnt (get_or l j none) R → 1 ≤ load d p i l
  unfolding load
  load_line d p i [] j z e h = omega arith
  load_line d p i (y ∷ l) zero z e h =
      let n : i + 0 ≡ i = omega arith in
      rw (eq-eqb (above d i) p (rw n at e)) (omega arith)
  load_line d p i (y ∷ l) (suc j) z e h =
      let n : i + suc j ≡ suc i + j = omega arith in
      omega (arith, load_line d p (suc i) l j z (rw n at e) h)

  -- what is on the two sides of p is below p
  pub load_sides : (d p v i : ℕ) (l : List ℕ) → v ≤ 1 → load d (2 * p + 1 + v) i l + load d (2 * p + 2 - v) i l ≤ load (suc d) p i l
  unfolding load above
  load_sides d p v i [] h = omega arith
  load_sides d p v i (y ∷ l) h = omega (arith, at_sides (above d i) p v (known R y) h, load_sides d p v (suc i) l h)
