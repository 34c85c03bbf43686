-- `exports::bolgverk_step` tells what `bolgverk::step` answers, and writes its state.
use mathlib.Core.Path.{refl}
use Rattle.exports.proofs.Calling.{step_call}
use Rattle.exports.proofs.bolgverk_step.Goals as goal

pub returns : goal.returns
returns c = step_call _ _ _ _ _ _ _ _ _ c.step-answer.ensures c.step.ensures refl refl
