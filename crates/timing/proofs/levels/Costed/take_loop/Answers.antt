-- The loop's time goes into one table, its number into the other (`ready_more`).
use native.Mathlib.Omega.{arith}
use Rattle.timing.proofs.Taking.{ready_more, loop_fits}
use Rattle.timing.proofs.levels.Costed.take_loop.Goals as goal

pub overflow_add-l : goal.overflow_add-l
overflow_add-l c =
    let s = c.args.self.now in
    omega (arith, loop_fits _ _ s.costs.now s.shaped _ c.requires.j_lt_loops _ c.loop_at-l.ensures, s.laid.nodes_high)

pub longest_way-way-requires : goal.longest_way-way-requires
longest_way-way-requires c =
    let s = c.args.self.now in
    let fits = loop_fits _ _ s.costs.now s.shaped _ c.requires.j_lt_loops _ c.loop_at-l.ensures in
    record { first_lt_nodes = omega (arith, fits); end_le_nodes = omega (arith, fits) }

pub fill-requires : goal.fill-requires
fill-requires c =
    let s = c.args.self.now in
    let fits = loop_fits _ _ s.costs.now s.shaped _ c.requires.j_lt_loops _ c.loop_at-l.ensures in
    record { from_le_to = omega (arith, fits); to_in_bounds = omega (arith, fits, c.requires.ready.step_room) }

pub returns : goal.returns
returns c =
    ready_more _ _ _ _ c.requires.j_lt_loops _ c.loop_at-l.ensures c.args.self.now.shaped _ _ _ _ _ c.requires.ready c.fill.ensures c.longest_way-way.ensures (omega (arith, c.rounds.ensures))
