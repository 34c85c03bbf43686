-- `evidence::steps::bad_steps`: edges before the first one looked at come from nodes before the scope, those after the last from nodes after it.
use Rattle.evidence.proofs.OneStep.{Reached}
use Rattle.evidence.proofs.steps.bad_steps.Given as goal

abbrev pub invariant-loop-i : goal.invariant-loop-i
invariant-loop-i l = Reached l.file l.trailer l.h l.i
