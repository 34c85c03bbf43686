-- `answers::sets::asked`: what is read are the arguments in their order, and the promise leaves one answer to them.
use Rattle.frames.specs.Frames.{set_asked}
use Rattle.bolgverk.proofs.Determined.{set_answer_lem}
use Rattle.answers.proofs.sets.asked.Goals as goal

pub returns : goal.returns
unfolding set_asked
returns c = rw (← c.u16_at.ensures) (set_answer_lem _ _ _ c.set_of.ensures)
