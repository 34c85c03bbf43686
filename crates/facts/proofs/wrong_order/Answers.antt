-- The test is the definition, in its order.
use mathlib.Core.Path.{refl}
use Rattle.paper.specs.Facts.{wrong_order}
use Rattle.facts.proofs.wrong_order.Goals as goal

pub returns-in-Some : goal.returns-in-Some
unfolding wrong_order
returns-in-Some c = rw c.in-Some.is refl

pub returns-in-None : goal.returns-in-None
unfolding wrong_order
returns-in-None c = rw c.in-None.is refl
