-- `onepass::counts`: each turn takes away the accesses found in one line more.
use Rattle.onepass.proofs.Counting.{Counting}
use Rattle.onepass.proofs.counts.Given as goal

abbrev pub invariant-loop-j : goal.invariant-loop-j
invariant-loop-j l = Counting l.sets l.blocks l.counts l.left l.j
