-- The test is the definition, in its order.
use mathlib.Core.Path.{refl}
use Rattle.paper.specs.Graphs.{rises_from, wrong_edge}
use Rattle.graph.proofs.edges.wrong_edge.Goals as goal

pub returns : goal.returns
unfolding wrong_edge rises_from
returns c = refl
