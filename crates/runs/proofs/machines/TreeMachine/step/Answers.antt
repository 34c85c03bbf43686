-- The tree's step in a run. Nothing is asked of a guess.
use Rattle.paper.specs.Machines.{step}
use Rattle.runs.proofs.machines.TreeMachine.step.Goals as goal

pub returns-clause-value : goal.returns-clause-value
unfolding step
returns-clause-value c = c.step.ensures
