-- `bolgverk::block_of` tells what the paper's answer does.
use mathlib.Core.Path.{ap}
use Rattle.paper.specs.Answers.{told_block}
use Rattle.bolgverk.proofs.block_of.Goals as goal

pub returns : goal.returns
returns c = record { told = ap told_block c.block_of.ensures }
