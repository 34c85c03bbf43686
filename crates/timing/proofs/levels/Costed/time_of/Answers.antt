-- The longest way from node 0 where all loops are steps, and the penalties.
use Rattle.timing.proofs.Taking.{time_found}
use Rattle.timing.proofs.levels.Costed.time_of.Goals as goal

pub returns : goal.returns
returns c = time_found _ _ c.args.self.now.costs.now _ _ _ _ _ c.longest_way-way.ensures c.rounds.ensures c.added.ensures
