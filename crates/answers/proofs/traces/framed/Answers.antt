-- `answers::traces::framed` puts the head so that it ends where the marks begin, which stay as the trace left them.
use mathlib.Core.Path.{◌∙◌, ap}
use borrow.Author.Rules.{rules}
use Rattle.frames.specs.Frames.{trace_head}
use Rattle.frames.specs.Places.{misses_width}
use Rattle.frames.proofs.Answering.{answered_as, answered_before, front_same}
use Rattle.answers.proofs.traces.framed.Goals as goal

pub returns : goal.returns
returns c =
    let l = c.traced.new.bytes in
    answered_as (front_same 4 misses_width _ (c.trace-head.ensures ∙ ap trace_head c.traced.ensures.value))
    (answered_before {l = l} _ (search rules) c.front_before.ensures.put c.traced.ensures.bytes_after)
