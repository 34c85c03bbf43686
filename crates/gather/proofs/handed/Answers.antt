-- `gather::handed`: the slots' blocks, then x where it counts.
use Rattle.search.specs.Steps.{handed}
use Rattle.gather.proofs.handed.Goals as goal

pub returns-then-counts : goal.returns-then-counts
unfolding handed
returns-then-counts c =
    λ e t s. rw (← c.counts.ensures e t s, c.if-counts.true, ← s.limit, ← c.put_slots-all.ensures) c.put.ensures

pub returns : goal.returns
unfolding handed
returns c =
    λ e t s. rw (← c.counts.ensures e t s, c.if-counts.false, ← s.limit) c.put_slots-all.ensures
