-- LRU's step in a run: what is moved is what the block's weight says, whatever was moved before.
use Rattle.paper.specs.Machines.{step}
use Rattle.runs.proofs.Standing.{stands_ready}
use Rattle.runs.proofs.machines.LruMachine.step.Goals as goal

pub lru-requires-clause-ready : goal.lru-requires-clause-ready
lru-requires-clause-ready c = stands_ready c.requires

pub returns-clause-value : goal.returns-clause-value
unfolding step
returns-clause-value c = c.lru.ensures
