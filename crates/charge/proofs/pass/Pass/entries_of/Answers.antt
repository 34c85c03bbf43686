-- The whole graph is entered once; a loop at most as often as the header of the next loop out is visited, and at most W times.
use mathlib.Core.Path.{◌∙◌}
use Rattle.charge.proofs.Entries.{entries_whole, entries_loop}
use Rattle.charge.proofs.pass.Pass.entries_of.Goals as goal

pub returns-then-h-eq65535 : goal.returns-then-h-eq65535
returns-then-h-eq65535 c = entries_whole _ _ _ _ c.requires.h_value c.if-h-eq65535.true

pub returns : goal.returns
returns c =
    c.at_most.ensures ∙ entries_loop _ _ _ _ c.requires.h_value _ c.if-h-eq65535.false c.outer_of-n.ensures
