-- The tables are those of the loops from j on (`Ready`), and j goes down.
use Rattle.timing.specs.Ready.{Ready}
use Rattle.timing.proofs.levels.Costed.take_loops.Given as goal

abbrev pub invariant-loop-j : goal.invariant-loop-j
invariant-loop-j l = Ready l.self.file.now l.self.trailer l.self.costs.now l.j l.steps l.times
