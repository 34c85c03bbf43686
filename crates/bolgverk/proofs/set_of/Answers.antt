-- `bolgverk::set_of` tells what the paper's answer does.
use mathlib.Core.Path.{ap}
use Rattle.paper.specs.Answers.{told_set}
use Rattle.bolgverk.proofs.set_of.Goals as goal

pub returns : goal.returns
returns c = record { told = ap told_set c.set_of.ensures }
