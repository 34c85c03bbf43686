-- `answers::times::framed`: the head and the time are all of the frame, and fill the bytes.
use mathlib.Core.Path.{◌∙◌, ap}
use borrow.Author.Rules.{rules}
use Rattle.frames.specs.Frames.{time_head, front}
use Rattle.frames.specs.Places.{time_width}
use Rattle.frames.proofs.Answering.{put_all}
use Rattle.answers.proofs.times.framed.Goals as goal

pub returns : goal.returns
returns c =
    put_all {l = c.args.out.now} (search rules) c.front.ensures.put ∙ ap (front 10 time_width) (c.time-head.ensures ∙ ap time_head c.timed.ensures)
