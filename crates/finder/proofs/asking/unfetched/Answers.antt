-- `finder::asking::unfetched`: the scope's nodes are those from its first on.
use Rattle.paper.specs.Files.{case_of}
use Rattle.evidence.proofs.Scopes.{unfetched_by}
use Rattle.finder.proofs.Asked.{nodes_is}
use Rattle.finder.proofs.asking.unfetched.Goals as goal

pub returns : goal.returns
unfolding case_of
returns c =
    let k = c.requires.scoped.seeks in
    unfetched_by _ _ _ _ _ _ k.first k.block (nodes_is _ _ _ c.requires.scoped _ c.nodes.ensures.value) c.fetched.ensures
