-- `trees::tables`: the rules are computed at each of the entries and compared with the constants.
use mathlib.Core.Path.{refl}
use Rattle.paper.specs.Lists.{table, least, least_from}
use Rattle.paper.specs.Steps.{bit_at}
use Rattle.paper.specs.Trees.{levels, pointed, led_to, tree_victim, with_bit, turned_from, turned_above, turned, parent}
use Rattle.trees.specs.TreeTables.{tree_misses, miss_entry, at_miss, ways_at, turned_ones, turned_zeros, turn_entry, depth}
use Rattle.trees.proofs.tables.Goals as goal

pub invariant_of-result : goal.invariant_of-result
unfolding tree_misses miss_entry at_miss ways_at turned_ones turned_zeros turn_entry depth least least_from table levels pointed led_to tree_victim bit_at with_bit turned_from turned_above turned parent
invariant_of-result c = record { misses_made = refl; ones_made = refl; zeros_made = refl }
