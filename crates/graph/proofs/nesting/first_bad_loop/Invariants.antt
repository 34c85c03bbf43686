-- The loop before is carried along (`IsBefore`); it stops at the least loop at fault (`Passed`).
use Rattle.paper.specs.Graphs.{bad_loop}
use Rattle.paper.proofs.Least.{Passed}
use Rattle.paper.proofs.Before.{IsBefore}
use Rattle.graph.proofs.nesting.first_bad_loop.Given as goal

abbrev pub invariant-loop-i : goal.invariant-loop-i
invariant-loop-i g l =
    let e = g.S.Shape.told l.shape in
    Passed (bad_loop e) e.loops l.i × IsBefore (λ j. (e.loop j).first) l.i l.h
