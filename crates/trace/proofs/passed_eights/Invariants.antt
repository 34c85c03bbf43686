-- `trace::passed_eights`: eight accesses of which none has block none make the trace clear up to the next eight.
use Prim.Native.Nat.{◌-◌}
use lib.ListN.{length}
use Rattle.trace.specs.Eights.{Clear}
use Rattle.trace.proofs.passed_eights.Given as goal

abbrev pub invariant-loop-i : goal.invariant-loop-i
invariant-loop-i l = Clear l.blocks l.i

abbrev pub decreases-loop-i : goal.decreases-loop-i
decreases-loop-i l = length l.blocks - l.i
