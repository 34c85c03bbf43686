-- The test is the definition, in its order.
use mathlib.Core.Path.{refl}
use Rattle.paper.specs.Facts.{wrong_head}
use Rattle.facts.proofs.wrong_head.Goals as goal

pub returns : goal.returns
unfolding wrong_head
returns c = rw c.wrong_scope.ensures refl
