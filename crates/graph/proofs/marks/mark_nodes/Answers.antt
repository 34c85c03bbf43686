-- A table that holds the marks of the first j loops.
use native.Mathlib.Omega.{arith}
use mathlib.Core.Path.{refl, ◌∙◌}
use Rattle.paper.specs.Files.{case_of}
use Rattle.graph.specs.Marks.{marked_to}
use Rattle.graph.proofs.Filling.{holds_start, holds_end}
use Rattle.graph.proofs.Marking.{marked_start, marked_step, mark_fits, handed_mark}
use Rattle.graph.proofs.marks.mark_nodes.Goals as goal

pub loop-j-init : goal.loop-j-init
loop-j-init c =
    (refl, holds_start c.fill.ensures _ _ refl (omega arith) (omega (arith, c.requires.laid.nodes_high, c.requires.most_nodes_in_bounds)) (marked_start _ _))

pub fill-requires-in-loop-j : goal.fill-requires-in-loop-j
unfolding case_of
fill-requires-in-loop-j c =
    let m = handed_mark _ _ _ _ _ _ c.loops_of-loops.ensures c.requires.shaped c.loop-j-test.true c.loop_mark-m.ensures in
    let w = mark_fits _ c.requires.shaped _ _ _ c.loop-j-test.true m in
    record { from_le_to = w.0; to_in_bounds = omega (arith, w.1, c.loop-j.invariant.1.room) }

pub loop-j-preserved : goal.loop-j-preserved
loop-j-preserved c =
    let m = handed_mark _ _ _ _ _ _ c.loops_of-loops.ensures c.requires.shaped c.loop-j-test.true c.loop_mark-m.ensures in
    (c.fill-in-loop-j.ensures.same ∙ c.loop-j.invariant.0, marked_step _ _ _ _ _ _ _ m c.fill-in-loop-j.ensures c.loop-j.invariant.1)

pub shape_of-table : goal.shape_of-table
shape_of-table c = c.loop-j.invariant.0 ∙ c.fill.ensures.same

pub returns : goal.returns
returns c = holds_end (marked_to _ _) _ _ _ _ c.loop-j.invariant.1 (omega arith) c.loop-j-test.false

pub loop_mark-m-requires : goal.loop_mark-m-requires
loop_mark-m-requires c = omega (arith, c.loops_of-loops.ensures.room, c.requires.laid.loops_high)
