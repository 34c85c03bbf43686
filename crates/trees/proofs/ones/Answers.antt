-- `trees::ones`: the rule is computed at each of the 15 entries and compared with the constant.
use mathlib.Core.Path.{refl}
use Rattle.paper.specs.Lists.{table, least, least_from}
use Rattle.paper.specs.Steps.{bit_at}
use Rattle.paper.specs.Trees.{with_bit, turned_from, turned_above, parent}
use Rattle.trees.specs.TreeTables.{turned_ones, turn_entry, depth}
use Rattle.trees.proofs.ones.Goals as goal

pub returns : goal.returns
unfolding turned_ones turn_entry depth least least_from table bit_at with_bit turned_from turned_above parent
returns c = refl
