-- The table has what comes before each node after the first i edges (`Numbered`), and an edge's turn takes its start's number over to its end (`numbered_more`).
use native.Mathlib.Omega.{arith}
use Rattle.paper.specs.Files.{case_of}
use Rattle.timing.proofs.Numbering.{ends, numbered_start, numbered_more}
use Rattle.timing.proofs.levels.Level.push.Goals as goal

pub loop-i-init : goal.loop-i-init
unfolding case_of
loop-i-init c = numbered_start _ _ _ _ _ _ c.requires.zeros c.requires.first_lt_nodes

pub carried-n-requires : goal.carried-n-requires
unfolding case_of
carried-n-requires c = (ends _ c.args.self.now.of.shaped _ _ _ c.loop-i-test.true c.from_at-u.ensures c.to_at-v.ensures).0

pub bounds-table-v : goal.bounds-table-v
unfolding case_of
bounds-table-v c =
    omega (arith, (ends _ c.args.self.now.of.shaped _ _ _ c.loop-i-test.true c.from_at-u.ensures c.to_at-v.ensures).1, c.args.self.now.of.laid.nodes_high)

pub bounds-table-v-in-loop-i : goal.bounds-table-v-in-loop-i
unfolding case_of
bounds-table-v-in-loop-i c =
    omega (arith, (ends _ c.args.self.now.of.shaped _ _ _ c.loop-i-test.true c.from_at-u.ensures c.to_at-v.ensures).1, c.args.self.now.of.laid.nodes_high)

pub loop-i-preserved : goal.loop-i-preserved
unfolding case_of
loop-i-preserved c =
    let h = ends _ c.args.self.now.of.shaped _ _ _ c.loop-i-test.true c.from_at-u.ensures c.to_at-v.ensures in
    numbered_more _ _ _ _ _ _ _ _ _ _ _ c.loop-i.invariant c.from_at-u.ensures c.to_at-v.ensures h.0 h.1 c.carried-n.ensures c.max.ensures
