-- `evidence::rows::elsewhere`: the sets say where x lives, and the head where the fact's block does.
use mathlib.Core.Path.{refl}
use Rattle.evidence.proofs.Scopes.{home_of}
use Rattle.evidence.proofs.rows.elsewhere.Goals as goal

pub returns : goal.returns
returns c = rw (home_of _ _ c.requires _ _ c.home.ensures.value) refl
