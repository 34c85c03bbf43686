-- `waylines::is_whole`: the test is the definition.
use mathlib.Core.Path.{refl}
use Rattle.waylines.specs.WayLines.{whole}
use Rattle.waylines.proofs.is_whole.Goals as goal

pub returns : goal.returns
unfolding whole
returns c = refl
