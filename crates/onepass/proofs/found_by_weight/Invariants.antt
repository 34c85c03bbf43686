-- `onepass::found_by_weight`: the last set is held apart, an access keeps what holds of the pass, and the shift is always one that some weight gives.
use mathlib.Core.Path.{◌≡◌}
use Rattle.paper.specs.Shifts.{shift_at}
use Rattle.onepass.proofs.Passing.{Passing}
use Rattle.onepass.proofs.found_by_weight.Given as goal

abbrev pub invariant-loop-b : goal.invariant-loop-b
invariant-loop-b l =
    record { passing : Passing l.sets l.blocks l.found l.states l.last l.state l.b-index; known : l.shift ≡ shift_at 8 l.shift.weight }
