-- The tests on one loop, and whether it crosses an earlier one, in the definition's order.
use Rattle.paper.specs.Graphs.{wrong_loop}
use Rattle.graph.proofs.nesting.wrong_loop.Goals as goal

pub returns : goal.returns
unfolding wrong_loop
returns g c = cc
