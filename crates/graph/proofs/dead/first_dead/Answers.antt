-- A dead node stays unmarked, so the least 0 of the table is the least dead node.
use Rattle.paper.specs.Files.{case_of}
use Rattle.graph.proofs.DeadMarks.{first_dead_is}
use Rattle.graph.proofs.dead.first_dead.Goals as goal

pub returns : goal.returns
unfolding case_of
returns c =
    first_dead_is _ c.requires.shaped c.requires.edges_value c.requires.edges_value_2 _ c.mark_reached.ensures _ c.first_zero.ensures
