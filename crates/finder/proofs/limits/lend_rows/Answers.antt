-- `finder::limits::lend_rows`: a row after another (`Lending`).
use native.Mathlib.Omega.{arith}
use mathlib.Core.Path.{◌∙◌, ap}
use Rattle.search.specs.Steps.{lowered}
use Rattle.search.specs.Passes.{rows_found}
use Rattle.finder.proofs.Asked.{nodes_is, roomy}
use Rattle.finder.proofs.Rows.{lending_start, lending_kept, lending_more, lending_end}
use Rattle.finder.proofs.limits.lend_rows.Goals as goal

pub put_row-requires : goal.put_row-requires
put_row-requires c =
    let room = roomy _ _ _ c.requires.scoped _ c.nodes-j-end.ensures.value _ c.requires.q_in_bounds in
    omega (arith, room, lending_kept _ _ _ _ room _ _ c.loop-j.invariant, c.loop-j-test.true)

pub loop-j-preserved : goal.loop-j-preserved
loop-j-preserved c =
    lending_more _ _ _ _ (roomy _ _ _ c.requires.scoped _ c.nodes-j-end.ensures.value _ c.requires.q_in_bounds) _ _ _ _ c.loop-j.invariant c.loop-j-test.true
    (c.lowered.ensures ∙ ap (lowered _) c.row_of.ensures) c.put_row.ensures

pub shape_of-rows : goal.shape_of-rows
shape_of-rows c = lending_kept _ _ _ _ (roomy _ _ _ c.requires.scoped _ c.nodes-j-end.ensures.value _ c.requires.q_in_bounds) _ _ c.loop-j.invariant

pub returns : goal.returns
unfolding rows_found
returns c = rw (← nodes_is _ _ _ c.requires.scoped _ c.nodes-j-end.ensures.value) (lending_end _ _ _ _ _ _ c.loop-j.invariant c.loop-j-test.false)

pub loop-j-init : goal.loop-j-init
loop-j-init c = lending_start _ _ _ _
