-- `trace::bad_access`: the first access with block none stops the loop; before it none has it.
use lib.ListN.{length}
use Rattle.paper.specs.Traces.{bad_access}
use Rattle.paper.proofs.Least.{Passed}
use Rattle.trace.proofs.bad_access.Given as goal

abbrev pub invariant-loop-i : goal.invariant-loop-i
invariant-loop-i l = Passed (bad_access l.blocks) (length l.blocks) l.i
