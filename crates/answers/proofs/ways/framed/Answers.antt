-- `answers::ways::framed` puts what was counted, or the refusal with zeros.
use mathlib.Core.Path.{◌∙◌, ap}
use lib.ListN.{replicate}
use Rattle.frames.specs.declared.Head.{Head}
use Rattle.frames.specs.Frames.{ways_frame, ways_text}
use Rattle.answers.proofs.ways.framed.Goals as goal

pub returns-in-Ok : goal.returns-in-Ok
returns-in-Ok c =
    c.put_answer.ensures ∙ ap (λ (h : Head). ways_text h c.in-Ok.counts) c.found.ensures ∙ ap ways_frame c.in-Ok.ensures

pub returns-in-Err : goal.returns-in-Err
returns-in-Err c =
    c.put_answer-in-Err.ensures ∙ ap (λ (h : Head). ways_text h (replicate 8 0)) c.refused.ensures ∙ ap ways_frame c.in-Err.ensures
