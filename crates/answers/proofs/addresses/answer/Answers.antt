-- `answers::addresses::answer`: the frame fills the bytes from its place on.
use mathlib.Core.Path.{◌∙◌, ap}
use borrow.Author.Rules.{rules}
use Rattle.frames.specs.Frames.{block_head, front}
use Rattle.frames.specs.Places.{block_width}
use Rattle.frames.proofs.Answering.{answered_as, answered_whole}
use Rattle.answers.proofs.addresses.answer.Goals as goal

pub returns : goal.returns
returns c =
    answered_as (ap (front 2 block_width) (c.block-head.ensures ∙ ap block_head c.asked.ensures)) (answered_whole (search rules) c.front_before.ensures.put)
