-- `paper::SetState::shift`: the last shift, where the weight is the same, is the one asked for.
use mathlib.Core.Path.{◌∙◌, ap, ap₂, sym}
use Rattle.paper.specs.declared.Shift.{Shift}
use Rattle.paper.specs.Shifts.{shift_by, shift_at}
use Rattle.paper.proofs.SetState.shift.Goals as goal

pub returns-then-w-last : goal.returns-then-w-last
returns-then-w-last c =
    let s = c.before.before.before.before in
    s.requires ∙ ap (shift_at s.args.k) (sym c.if-w-last.true ∙ c.weight-w.ensures)

pub returns : goal.returns
returns c =
    let found = c.before.before.before.before in
    c.shift_at.ensures ∙ ap₂ shift_by (ap (λ (t : Shift). t.beyond) found.requires) found.weight-w.ensures
