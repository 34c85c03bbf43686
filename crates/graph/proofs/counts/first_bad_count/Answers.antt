-- A count that is too large is marked 0, so the least 0 of the table is the least node at fault.
use mathlib.Core.Path.{sym, ◌∙◌}
use Rattle.graph.proofs.CountMarks.{first_count, all_counted}
use Rattle.graph.proofs.counts.first_bad_count.Goals as goal

pub returns : goal.returns
returns c =
    let w = c.requires.shaped in
    let e = first_count _ _ w _ c.mark_nodes.ensures _ c.first_zero.ensures in
    record { value = e; counted = λ h. all_counted _ _ w _ c.mark_nodes.ensures (sym h ∙ e) }
