-- What is read so far (`Read`): each record is the loop that the file has there.
use Rattle.loops.proofs.Handing.{Read}
use Rattle.loops.proofs.loops_of.Given as goal

abbrev pub invariant-loop-j : goal.invariant-loop-j
invariant-loop-j l = Read l.file l.trailer l.j l.loops
