-- `lists::rows::bad_rows`: the first bad row stops the loop; before it none was bad.
use Rattle.paper.specs.Facts.{bad_row_at}
use Rattle.paper.proofs.Least.{passed_more}
use Rattle.layout.proofs.FirstLaws.{first_found, first_end}
use Rattle.lists.proofs.rows.bad_rows.Goals as goal

pub returns-then-bad_row : goal.returns-then-bad_row
unfolding bad_row_at
returns-then-bad_row c =
    first_found _ _ _ c.loop-j.invariant _ c.loop-j-test.true c.bad_row.ensures c.if-bad_row.true

pub loop-j-preserved : goal.loop-j-preserved
unfolding bad_row_at
loop-j-preserved c =
    passed_more _ _ _ _ c.loop-j.invariant c.loop-j-test.true c.bad_row.ensures c.if-bad_row.false

pub returns : goal.returns
returns c = first_end _ _ _ c.loop-j.invariant c.loop-j-test.false
