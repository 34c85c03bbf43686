-- `onepass::counts`: each turn takes away the accesses found in one line more.
use native.Mathlib.Omega.{arith}
use Rattle.onepass.proofs.Counting.{counting_start, counting_enough, counting_more, counting_end}
use Rattle.onepass.proofs.counts.Goals as goal

pub overflow_sub-left : goal.overflow_sub-left
overflow_sub-left c =
    counting_enough c.found_by_weight-found.ensures c.loop-j.invariant (omega arith) c.weight_of.ensures.value

pub loop-j-preserved : goal.loop-j-preserved
loop-j-preserved c =
    counting_more c.found_by_weight-found.ensures c.loop-j.invariant (omega arith) c.weight_of.ensures.value

pub loop-j-init : goal.loop-j-init
loop-j-init c = counting_start

pub returns : goal.returns
returns c = counting_end c.loop-j.invariant (omega arith)
