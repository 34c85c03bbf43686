-- The test is the definition.
use mathlib.Core.Path.{refl}
use Rattle.paper.specs.Records.{bad_version}
use Rattle.paper.proofs.versions.is_bad_version.Goals as goal

pub returns : goal.returns
unfolding bad_version
returns c = refl
