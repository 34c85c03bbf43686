-- `salvaging::refused`: what is said is the refusal's line.
use mathlib.Core.Path.{refl}
use Rattle.salvaging.proofs.refused.Goals as goal

pub returns : goal.returns
returns c = record { printed = c.refused.ensures; rest_value = refl }
