-- The test is the definition, in its order.
use mathlib.Core.Path.{refl}
use Rattle.facts.proofs.wrong_scope.Goals as goal

pub returns : goal.returns
returns c = refl
