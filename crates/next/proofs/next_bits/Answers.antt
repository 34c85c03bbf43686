-- `next::next_bits`: the rule is computed at each of the 2,048 entries and compared with the constant.
use mathlib.Core.Path.{refl}
use Rattle.paper.specs.Lists.{table}
use Rattle.paper.specs.Machines.{marked}
use Rattle.paper.specs.NextBits.{next_bits}
use Rattle.next.proofs.next_bits.Goals as goal

pub invariant_of-result : goal.invariant_of-result
unfolding next_bits table marked
invariant_of-result c = record { made = refl }
