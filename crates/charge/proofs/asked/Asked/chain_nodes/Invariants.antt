-- A node becomes the last of its bucket, and keeps the one that was.
use Rattle.paper.specs.Files.{case_of}
use Rattle.charge.specs.Chained.{Chained}
use Rattle.charge.proofs.asked.Asked.chain_nodes.Given as goal

abbrev pub invariant-loop-v : goal.invariant-loop-v
invariant-loop-v l = Chained (case_of l.self.file.now l.self.trailer) l.v l.chain
