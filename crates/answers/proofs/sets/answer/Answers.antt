-- `answers::sets::answer`: the frame fills the bytes from its place on.
use mathlib.Core.Path.{◌∙◌, ap}
use borrow.Author.Rules.{rules}
use Rattle.frames.specs.Frames.{set_head, front}
use Rattle.frames.specs.Places.{set_width}
use Rattle.frames.proofs.Answering.{answered_as, answered_whole}
use Rattle.answers.proofs.sets.answer.Goals as goal

pub returns : goal.returns
returns c =
    answered_as (ap (front 3 set_width) (c.set-head.ensures ∙ ap set_head c.asked.ensures)) (answered_whole (search rules) c.front_before.ensures.put)
