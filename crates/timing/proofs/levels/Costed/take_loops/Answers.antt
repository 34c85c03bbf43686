-- The tables are those of the loops from j on (`Ready`), and j goes down.
use native.Mathlib.Omega.{arith}
use Rattle.timing.proofs.Taking.{ready_start}
use Rattle.timing.proofs.levels.Costed.take_loops.Goals as goal

pub loop-j-init : goal.loop-j-init
loop-j-init c =
    let laid = c.args.self.now.laid in
    ready_start _ _ _ _ _ _ c.fill.ensures (omega (arith, laid.nodes_high, c.requires.most_nodes_in_bounds)) (omega (arith, laid.loops_high, c.requires.most_loops_in_bounds))
