-- The table has the next loop out, and the counts have its header's.
use native.Mathlib.Omega.{arith}
use Rattle.charge.proofs.Entries.{outer_none, next_low, next_header}
use Rattle.charge.proofs.pass.Pass.outer_of.Goals as goal

pub returns-then-c-eq0 : goal.returns-then-c-eq0
returns-then-c-eq0 c =
    outer_none _ _ _ _ c.args.self.now.of.ready c.args.self.now.loops_out _ c.requires c.if-c-eq0.true

pub loop_at-header-requires-clause-j_lt_loops : goal.loop_at-header-requires-clause-j_lt_loops
loop_at-header-requires-clause-j_lt_loops c =
    next_low _ _ _ _ c.args.self.now.of.ready c.args.self.now.loops_out _ c.requires c.if-c-eq0.false

pub bounds-self-header : goal.bounds-self-header
bounds-self-header c =
    let h = next_header _ _ _ _ c.args.self.now.of.ready c.args.self.now.loops_out _ c.requires c.if-c-eq0.false _ c.loop_at-header.ensures in
    omega (arith, h.0, c.args.self.now.of.ready.counted.room)

pub returns : goal.returns
returns c =
    let h = next_header _ _ _ _ c.args.self.now.of.ready c.args.self.now.loops_out _ c.requires c.if-c-eq0.false _ c.loop_at-header.ensures in
    h.1
