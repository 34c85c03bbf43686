-- `exports::bolgverk_trace_run` tells what `bolgverk::trace_run` answers.
use Rattle.exports.proofs.Calling.{trace_call}
use Rattle.exports.proofs.bolgverk_trace_run.Goals as goal

pub returns : goal.returns
returns c =
    trace_call _ _ _ _ _ _ _ _ _ _ _ c.trace_run-answer.ensures c.trace_run.ensures.value c.trace_run.ensures.place_after c.trace_run.ensures.misses_after
