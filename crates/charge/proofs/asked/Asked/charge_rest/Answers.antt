-- The nodes' tables begin empty and are filled; the sets ask for them and for those of the facts.
use Rattle.charge.proofs.Tallies.{grouped_start}
use Rattle.charge.proofs.asked.Asked.charge_rest.Goals as goal

pub charge_nodes-requires-clause-nodes_added : goal.charge_nodes-requires-clause-nodes_added
charge_nodes-requires-clause-nodes_added c = grouped_start _ _ _ _
