-- The tables begin empty, are filled for all loops and all nodes, and are lent to the pass over the facts.
use Rattle.charge.proofs.Buckets.{chained_start}
use Rattle.charge.proofs.asked.Asked.charge_facts.Goals as goal

pub chain_nodes-requires : goal.chain_nodes-requires
chain_nodes-requires c = chained_start _
