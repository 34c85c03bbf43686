-- `gather::rows::lowered`: the one test decides.
use mathlib.Core.Path.{refl}
use Rattle.search.specs.Steps.{lowered}
use Rattle.gather.proofs.rows.lowered.Goals as goal

pub returns-then-r-l : goal.returns-then-r-l
unfolding lowered
returns-then-r-l c = rw c.if-r-l.true c.plain.ensures

pub returns : goal.returns
unfolding lowered
returns c = rw c.if-r-l.false refl
