-- Node first + j is the scope's node j, and b is the head's block.
use Rattle.paper.specs.Cases.{fetches}
use Rattle.paper.specs.Files.{case_of}
use Rattle.evidence.proofs.fetches.Goals as goal

pub returns : goal.returns
unfolding fetches case_of
returns c = cc
