-- `finder::asking::fetches`: the node's block is compared with the one that is sought.
use Rattle.paper.specs.Files.{case_of}
use Rattle.finder.proofs.Asked.{fetches_is}
use Rattle.finder.proofs.asking.fetches.Goals as goal

pub returns : goal.returns
unfolding case_of
returns c =
    fetches_is _ _ _ c.requires.scoped.seeks _ _ c.node_at.ensures
