-- `salvager::filling::put_facts`: a fact after another, by the table.
use Rattle.paper.specs.Files.{trailer_of}
use Rattle.salvager.proofs.KeptPut.{Placed}
use Rattle.salvager.proofs.filling.put_facts.Given as goal

abbrev pub invariant-loop-j : goal.invariant-loop-j
invariant-loop-j l = Placed l.file (trailer_of l.file) l.fn.s l.initial.out l.at l.out l.to l.j
