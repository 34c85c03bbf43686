-- `lists::rows::bad_rest`: the first slot that is not free stops the loop.
use Prim.Native.Nat.{◌≤◌}
use Rattle.paper.proofs.Least.{Passed}
use Rattle.evidence.specs.RowParts.{unfree}
use Rattle.lists.specs.Listed.{row_at}
use Rattle.lists.proofs.rows.bad_rest.Given as goal

abbrev pub invariant-loop-i : goal.invariant-loop-i
invariant-loop-i l = Passed (unfree l.n (row_at l.rows l.at)) 7 l.i × (l.n ≤ l.i)
