-- `gather::counts`: the sets say where x lives, and q where b does.
use mathlib.Core.Path.{refl}
use Rattle.paper.specs.Cases.{same_set}
use Rattle.search.specs.Steps.{counts}
use Rattle.gather.proofs.counts.Goals as goal

pub returns : goal.returns
unfolding counts same_set
returns c = λ e t k. rw (c.home.ensures.value, k.count, k.home) refl
