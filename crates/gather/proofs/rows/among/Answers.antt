-- `gather::rows::among`: the chain of seven comparisons is what the definition computes to.
use mathlib.Core.Path.{refl}
use Rattle.search.specs.Steps.{among, among_to}
use Rattle.gather.proofs.rows.among.Goals as goal

pub returns : goal.returns
unfolding among among_to
returns c = refl
