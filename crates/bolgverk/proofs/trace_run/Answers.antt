-- `bolgverk::trace_run` tells what the paper's answer does, and leaves the lent bytes as it does.
use mathlib.Core.Path.{ap}
use Rattle.paper.specs.Answers.{told_trace}
use Rattle.bolgverk.proofs.trace_run.Goals as goal

pub returns : goal.returns
returns c = record { told = ap told_trace c.trace_run.ensures.value; marks = c.trace_run.ensures.marks_after }
