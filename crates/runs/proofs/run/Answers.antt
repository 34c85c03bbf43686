-- `runs::run`: a set has at most eight ways.
use Rattle.runs.proofs.Going.{few_ways}
use Rattle.runs.proofs.run.Goals as goal

pub new-requires : goal.new-requires
new-requires c = few_ways c.requires
