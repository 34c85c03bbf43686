-- `answers::steps::put_answer`: parts that are put one after another are one text, and it fills the bytes.
use borrow.Author.Rules.{rules}
use Rattle.puts.proofs.Putting.{put_then}
use Rattle.frames.specs.Frames.{step_frame}
use Rattle.frames.specs.Places.{outcome_width}
use Rattle.frames.proofs.Answering.{answered_as, answered_whole, front_same}
use Rattle.answers.proofs.steps.put_answer.Goals as goal

pub returns : goal.returns
unfolding step_frame
returns c =
    answered_as (front_same 1 outcome_width _ c.step.ensures)
    (answered_whole {l = c.args.out.now} (search rules) (put_then c.front-after_head.ensures.put (put_then c.put_list-after_lines.ensures.put c.put.ensures.put)))
