-- `lists::rows::bad_rows`: the first bad row stops the loop; before it none was bad.
use Rattle.paper.specs.Facts.{bad_row_at}
use Rattle.paper.proofs.Least.{Passed}
use Rattle.lists.specs.Listed.{fact_of, row_case}
use Rattle.lists.proofs.rows.bad_rows.Given as goal

abbrev pub invariant-loop-j : goal.invariant-loop-j
invariant-loop-j l = Passed (bad_row_at (row_case l.trailer) (fact_of l.rows l.h)) l.n l.j
