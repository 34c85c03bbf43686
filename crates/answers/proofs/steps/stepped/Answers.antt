-- `answers::steps::stepped`: what is read are the arguments in their order, and the promise leaves one answer to them.
use Rattle.answers.proofs.Asking.{step_asked_lem}
use Rattle.answers.proofs.steps.stepped.Goals as goal

pub returns : goal.returns
returns c =
    step_asked_lem _ c.read_list.ensures c.u16_at.ensures c.step.ensures
