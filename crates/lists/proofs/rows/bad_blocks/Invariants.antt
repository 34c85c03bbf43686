-- `lists::rows::bad_blocks`: the first slot that fails stops the loop; before it none did, and `low` is the least that the next may be.
use mathlib.Core.Path.{◌≡◌}
use Rattle.paper.specs.Facts.{bad_slot}
use Rattle.paper.proofs.Least.{Passed}
use Rattle.evidence.proofs.Slots.{lowest}
use Rattle.lists.specs.Listed.{row_at, fact_of, row_case}
use Rattle.lists.proofs.rows.bad_blocks.Given as goal

abbrev pub invariant-loop-i : goal.invariant-loop-i
invariant-loop-i l = Passed (bad_slot (row_case l.trailer) (fact_of l.rows l.h) (row_at l.rows l.at)) l.n l.i × (l.low ≡ lowest (row_at l.rows l.at) l.i)
