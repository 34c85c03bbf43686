-- `answers::steps::answer` puts the parts of what was stepped, and they are all that its frame reads.
use mathlib.Core.Path.{ap}
use Rattle.frames.specs.Frames.{step_frame}
use Rattle.frames.proofs.Answering.{answered_as}
use Rattle.answers.proofs.steps.answer.Goals as goal

pub returns : goal.returns
returns c =
    answered_as (ap step_frame c.stepped-a.ensures) c.put_answer.ensures
