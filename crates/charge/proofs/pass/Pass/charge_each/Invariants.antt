-- The facts stand one after the other: each turn adds one, and the next begins where it ends.
use Rattle.charge.proofs.Adding.{Adding}
use Rattle.charge.proofs.pass.Pass.charge_each.Given as goal

abbrev pub invariant-loop-i : goal.invariant-loop-i
invariant-loop-i l = Adding l.self.of.file.now l.self.of.trailer l.self.of.interruptions l.initial.numbers l.i l.p l.cover l.sums.whole l.sums.parts l.numbers
