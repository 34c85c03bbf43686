-- Node after node, the greatest number so far.
use mathlib.Core.Path.{refl}
use Rattle.paper.specs.Lists.{highest_to}
use Rattle.timing.proofs.Numbering.{greatest_more}
use Rattle.timing.proofs.levels.Level.highest.Goals as goal

pub loop-v-init : goal.loop-v-init
unfolding highest_to
loop-v-init c = refl

pub loop-v-preserved : goal.loop-v-preserved
loop-v-preserved c = greatest_more _ _ _ _ _ c.loop-v.invariant c.number.ensures c.max-most.ensures
