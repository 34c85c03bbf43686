-- Edges rise by from: the half that is left has the place where they reach v.
use Prim.Native.Nat.{◌-◌}
use Rattle.evidence.specs.Edges.{Splits}
use Rattle.evidence.proofs.steps.first_edge.Given as goal

abbrev pub invariant-loop-low : goal.invariant-loop-low
invariant-loop-low l = Splits l.file l.trailer l.v l.low l.high

abbrev pub decreases-loop-low : goal.decreases-loop-low
decreases-loop-low l = l.high - l.low
