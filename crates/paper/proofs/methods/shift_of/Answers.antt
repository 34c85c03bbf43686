-- `paper::methods::shift_of`: with weight 0 the lines from k on are kept and no others.
use Prim.Native.Nat.{ℕ}
use mathlib.Core.Path.{◌∙◌, ap}
use mathlib.Core.List.{List}
use Rattle.paper.specs.Shifts.{shift_by}
use Rattle.paper.proofs.methods.shift_of.Goals as goal

pub returns : goal.returns
returns c = c.shift_at.ensures ∙ ap (λ (l : List ℕ). shift_by l 0) c.kept_from.ensures
