-- The greatest number is one more than the longest way (`longest_found`).
use Rattle.timing.proofs.Numbering.{zeros_start}
use Rattle.timing.proofs.Taking.{longest_found}
use Rattle.timing.proofs.levels.Level.longest_way.Goals as goal

pub push-requires-clause-zeros : goal.push-requires-clause-zeros
push-requires-clause-zeros c = zeros_start _ c.args.self.now.of.laid.nodes_high

pub returns : goal.returns
returns c =
    let s = c.args.self.now in
    longest_found _ _ _ s.of.shaped _ _ _ _ _ _ s.ready c.push.ensures c.requires.end_le_nodes _ _ c.highest.ensures c.saturating_sub.ensures
