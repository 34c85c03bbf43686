-- The edge before is carried along (`IsBefore`); the loop stops at the least edge at fault (`Passed`).
use Rattle.paper.specs.Graphs.{bad_edge}
use Rattle.paper.proofs.Least.{Passed}
use Rattle.paper.proofs.Before.{IsBefore}
use Rattle.graph.proofs.edges.first_bad_edge.Given as goal

abbrev pub invariant-loop-i : goal.invariant-loop-i
invariant-loop-i g l =
    let e = g.S.Shape.told l.shape in
    Passed (bad_edge e) e.edges l.i × IsBefore e.from l.i l.a × IsBefore e.to l.i l.b
