-- M(l) is M(l-1), with the E of the facts of limit l for the counts that they cover; nothing is taken that is not there.
use Rattle.paper.specs.Files.{case_of}
use Rattle.charge.proofs.FloorSums.{Flooring}
use Rattle.charge.proofs.both.Both.least_floor.Given as goal

abbrev pub invariant-loop-j : goal.invariant-loop-j
invariant-loop-j l = Flooring (case_of l.self.of.file.now l.self.of.trailer) l.self.of.interruptions l.q l.a l.m l.x l.j
