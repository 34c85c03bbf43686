-- The test is the definition.
use mathlib.Core.Path.{refl}
use Rattle.paper.specs.Machines.{set_count}
use Rattle.paper.proofs.cache.is_set_count.Goals as goal

pub returns : goal.returns
unfolding set_count
returns c = refl
