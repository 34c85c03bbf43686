-- `bolgverk::step` tells what the paper's answer does.
use mathlib.Core.Path.{ap}
use Rattle.paper.specs.declared.StepAnswer.{StepAnswer}
use Rattle.paper.specs.Answers.{told_outcome}
use Rattle.bolgverk.proofs.step.Goals as goal

pub returns : goal.returns
returns c = record { told = ap (λ (r : StepAnswer). told_outcome r.outcome) c.step.ensures; state = ap (λ (r : StepAnswer). r.state) c.step.ensures }
