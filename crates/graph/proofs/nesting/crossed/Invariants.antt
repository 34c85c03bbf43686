-- The loop stops at the least earlier loop that is crossed (`Passed`).
use Rattle.paper.specs.Graphs.{crosses}
use Rattle.paper.proofs.Least.{Passed}
use Rattle.graph.specs.Wide.{as_loop}
use Rattle.graph.proofs.nesting.crossed.Given as goal

abbrev pub invariant-loop-j : goal.invariant-loop-j
invariant-loop-j g l = Passed (λ k. crosses ((g.S.Shape.told l.shape).loop k) (as_loop l.l)) l.i l.j
