-- `answers::addresses::asked`: what is read are the arguments in their order, and the promise leaves one answer to them.
use Rattle.frames.specs.Frames.{block_asked}
use Rattle.bolgverk.proofs.Determined.{block_answer_lem}
use Rattle.answers.proofs.addresses.asked.Goals as goal

pub returns : goal.returns
unfolding block_asked
returns c = rw (← c.u32_at-2.ensures, ← c.u32_at.ensures) (block_answer_lem _ _ _ c.block_of.ensures)
