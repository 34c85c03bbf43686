-- 65,535 is the whole graph; any other number is that loop.
use borrow.Author.Tests.{ne_eqb}
use Rattle.paper.specs.Cases.{range_of}
use Rattle.layout.proofs.sections.range_at.Goals as goal

pub returns-then-w-eq65535 : goal.returns-then-w-eq65535
returns-then-w-eq65535 c = rw c.if-w-eq65535.true (c.whole_graph.ensures _)

pub returns : goal.returns
unfolding range_of
returns c = rw (ne_eqb _ _ c.if-w-eq65535.false) c.loop_at.ensures
