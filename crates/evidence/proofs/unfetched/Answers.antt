-- The scope's nodes are those from its first on.
use Rattle.evidence.proofs.Scopes.{unfetched_is}
use Rattle.evidence.proofs.unfetched.Goals as goal

pub returns : goal.returns
returns c = unfetched_is _ _ _ c.requires.stands _ _ c.nodes.ensures.value c.fetched.ensures
