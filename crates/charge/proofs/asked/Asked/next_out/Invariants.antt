-- Every loop that is passed over ends before the header, so the first that does not is the last that contains it.
use Rattle.paper.specs.Files.{case_of}
use Rattle.charge.proofs.LoopsOut.{Passing}
use Rattle.charge.proofs.asked.Asked.next_out.Given as goal

abbrev pub invariant-loop-c : goal.invariant-loop-c
invariant-loop-c l = Passing (case_of l.self.file.now l.self.trailer) l.j l.c

abbrev pub decreases-loop-c : goal.decreases-loop-c
decreases-loop-c l = l.c
