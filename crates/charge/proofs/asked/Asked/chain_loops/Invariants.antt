-- One loop more at each turn; the loops before it are in the table already.
use Rattle.paper.specs.Files.{case_of}
use Rattle.charge.specs.NextOut.{Outers}
use Rattle.charge.proofs.asked.Asked.chain_loops.Given as goal

abbrev pub invariant-loop-j : goal.invariant-loop-j
invariant-loop-j l = Outers (case_of l.self.file.now l.self.trailer) l.j l.outers
