-- `names_at`: the three numbers of the head.
use Rattle.facts.proofs.names_at.Goals as goal

pub returns : goal.returns
returns c = cc
