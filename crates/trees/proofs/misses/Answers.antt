-- `trees::misses`: the rule is computed at each of the 256 entries and compared with the constant.
use mathlib.Core.Path.{refl}
use Rattle.paper.specs.Lists.{table, least, least_from}
use Rattle.paper.specs.Steps.{bit_at}
use Rattle.paper.specs.Trees.{levels, pointed, led_to, tree_victim, with_bit, turned_from, turned_above, turned, parent}
use Rattle.trees.specs.TreeTables.{tree_misses, miss_entry, at_miss, ways_at}
use Rattle.trees.proofs.misses.Goals as goal

pub returns : goal.returns
unfolding tree_misses miss_entry at_miss ways_at least least_from table levels pointed led_to tree_victim bit_at with_bit turned_from turned_above turned parent
returns c = refl
