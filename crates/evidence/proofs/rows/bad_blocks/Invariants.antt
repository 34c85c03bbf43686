-- `evidence::rows::bad_blocks`: the first slot that fails stops the loop; before it none did, and `low` is the least that the next may be.
use mathlib.Core.Path.{◌≡◌}
use Rattle.paper.specs.Files.{row_at, case_of}
use Rattle.paper.specs.Facts.{bad_slot}
use Rattle.paper.proofs.Least.{Passed}
use Rattle.evidence.specs.Stands.{fact_of}
use Rattle.evidence.proofs.Slots.{lowest}
use Rattle.evidence.proofs.rows.bad_blocks.Given as goal

abbrev pub invariant-loop-i : goal.invariant-loop-i
invariant-loop-i l = Passed (bad_slot (case_of l.file l.trailer) (fact_of l.file l.h) (row_at l.file l.at)) l.n l.i × (l.low ≡ lowest (row_at l.file l.at) l.i)
