-- `paper::methods::shift_at`: the lines after the one with this weight are kept too, by `kept_after`.
use Prim.Native.Nat.{ℕ}
use mathlib.Core.Path.{ap}
use mathlib.Core.List.{List}
use Rattle.paper.specs.declared.Shift.{Shift}
use Rattle.paper.proofs.methods.shift_at.Goals as goal

pub returns : goal.returns
returns c = ap {B = Shift} (λ (l : List ℕ). record { beyond = c.args.beyond; weight = c.args.weight; kept = l }) c.kept_after-kept.ensures
