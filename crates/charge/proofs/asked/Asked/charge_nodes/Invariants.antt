-- A node is added with the least limit that covers it, and with 0 where it fetches nothing.
use Rattle.charge.proofs.Walking.{Walking}
use Rattle.charge.proofs.asked.Asked.charge_nodes.Given as goal

abbrev pub invariant-loop-v : goal.invariant-loop-v
invariant-loop-v l = Walking l.self.file.now l.self.trailer l.v l.sums.whole l.sums.parts
