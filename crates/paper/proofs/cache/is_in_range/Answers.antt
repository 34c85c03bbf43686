-- Policy and ways are offered, and there are so many sets: the definition.
use Rattle.paper.specs.Machines.{in_range}
use Rattle.paper.proofs.cache.is_in_range.Goals as goal

pub returns : goal.returns
unfolding in_range
returns c = rw (c.is_offered.ensures, c.is_set_count.ensures)
