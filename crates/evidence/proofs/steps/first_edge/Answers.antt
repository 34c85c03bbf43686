-- Edges rise by from: the half that is left has the place where they reach v.
use mathlib.Core.Path.{refl}
use native.Mathlib.Omega.{arith}
use Rattle.evidence.proofs.Halves.{halves_start, halves_low, halves_high, halves_end}
use Rattle.evidence.proofs.steps.first_edge.Goals as goal

pub loop-low-preserved-then-from_at-v : goal.loop-low-preserved-then-from_at-v
loop-low-preserved-then-from_at-v c =
    halves_low _ _ _ _ _ c.loop-low.invariant c.requires.shaped _ _ (omega arith) (omega arith) c.from_at.ensures _ refl (omega (arith, c.if-from_at-v.true))

pub loop-low-preserved : goal.loop-low-preserved
loop-low-preserved c =
    halves_high _ _ _ _ _ c.loop-low.invariant c.requires.shaped _ _ (omega arith) (omega arith) c.from_at.ensures _ refl (omega (arith, c.if-from_at-v.false))

pub loop-low-init : goal.loop-low-init
loop-low-init c = halves_start _ _ _

pub returns : goal.returns
returns c = halves_end _ _ _ _ _ c.loop-low.invariant c.loop-low-test.false
