-- `lists::rows::elsewhere`: what is judged by says where x lives.
use mathlib.Core.Path.{refl}
use Rattle.lists.proofs.Slots.{home_of}
use Rattle.lists.proofs.rows.elsewhere.Goals as goal

pub returns : goal.returns
returns c = rw (home_of _ _ _ c.requires _ _ c.home.ensures.value) refl
