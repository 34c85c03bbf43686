-- The checked numbers marked P hold, by computation.
use mathlib.Core.Path.{◌≡◌, refl}
use mathlib.Core.Bool.{true}
use Rattle.paper.specs.Lists.{least_from, least, some, sum_to, chain, lowest_to, table}
use Rattle.paper.specs.Machines.{line_of, hits, pushed, lru_step, fifo_step, bit_at, victim, marked, line_or, miss_line, nmru_line, nmru_step, step, offered, set_count, in_range}
use Rattle.paper.specs.Trees.{levels, tree_limit, parent, pointed, led_to, tree_victim, with_bit, turned_from, turned_above, turned, tree_line, tree_step}
use Rattle.paper.specs.Cases.{inside, range_of, same_set, fetches}
use Rattle.paper.specs.Graphs.{rises_from, crosses, beside, returns, around, wrong_edge, wrong_loop, bad_edge, bad_loop, bad_entry, bad_return, joined, leads, reached, dead, at_most, header_visits, innermost, count, bad_count, outer, entries_of, entries}
use Rattle.paper.specs.Facts.{held, holds, wrong_head, bad_head, wrong_order, bad_order, unfetched, bad_slot, bad_row, bad_row_at, lacks, after_b, after_many, after_set, breaks, broken_by, bad_step_at, step_number, bad_many_at, least_node}
use Rattle.paper.specs.Bounds.{ceil, bound_of, floor_of, covers, counts, entered, fact_bound, lives, uncovered, sum_of, A, M, floor_at, set_bound, total_bound, number_at}
use Rattle.paper.specs.Records.{bad_version, loop_fields, loop_size}
use Rattle.paper.specs.Files.{u16_at, u32_at, trailer_of, bad_letter, bad_letters, bad_cache, bad_numbers, bad_offsets, visits_by, node_at, from_at, to_at, loop_at, fact_end, fact_place, case_of}
use Rattle.paper.specs.Verdicts.{layout_rules, shape_rules, path_rules, count_rules, head_rule, order_rule, fetch_rule, row_rules, step_rules, many_rules, body_rules, turn_rules, turns_from, fact_rules, verdict}
use Rattle.paper.specs.Listings.{decimal_in, decimal, line, line_of_two, lines_from, bound_lines, listing_of}
use Rattle.paper.specs.Checked.{all_hold, checked_numbers, tree_numbers}

pub checked_numbers_hold : all_hold checked_numbers ≡ true
unfolding least_from least some sum_to chain lowest_to table line_of hits pushed lru_step fifo_step bit_at victim marked line_or miss_line nmru_line nmru_step step offered set_count in_range inside range_of same_set fetches rises_from crosses beside returns around wrong_edge wrong_loop bad_edge bad_loop bad_entry bad_return joined leads reached dead at_most header_visits innermost count bad_count outer entries_of entries held holds wrong_head bad_head wrong_order bad_order unfetched bad_slot bad_row bad_row_at lacks after_b after_many after_set breaks broken_by bad_step_at step_number bad_many_at least_node ceil bound_of floor_of covers counts entered fact_bound lives uncovered sum_of A M floor_at set_bound total_bound number_at u16_at u32_at trailer_of bad_letter bad_letters bad_cache bad_numbers bad_offsets bad_version loop_fields loop_size visits_by node_at from_at to_at loop_at fact_end fact_place case_of layout_rules shape_rules path_rules count_rules head_rule order_rule fetch_rule row_rules step_rules many_rules body_rules turn_rules turns_from fact_rules verdict decimal_in decimal line line_of_two lines_from bound_lines listing_of
checked_numbers_hold = refl

-- and those of the tree
pub tree_numbers_hold : all_hold tree_numbers ≡ true
unfolding least_from least some sum_to chain lowest_to table line_of hits pushed lru_step fifo_step bit_at victim marked line_or miss_line nmru_line nmru_step levels tree_limit parent pointed led_to tree_victim with_bit turned_from turned_above turned tree_line tree_step step offered set_count in_range inside range_of same_set fetches rises_from crosses beside returns around wrong_edge wrong_loop bad_edge bad_loop bad_entry bad_return joined leads reached dead at_most header_visits innermost count bad_count outer entries_of entries held holds wrong_head bad_head wrong_order bad_order unfetched bad_slot bad_row bad_row_at lacks after_b after_many after_set breaks broken_by bad_step_at step_number bad_many_at least_node ceil bound_of floor_of covers counts entered fact_bound lives uncovered sum_of A M floor_at set_bound total_bound number_at u16_at u32_at trailer_of bad_letter bad_letters bad_cache bad_numbers bad_offsets bad_version loop_fields loop_size visits_by node_at from_at to_at loop_at fact_end fact_place case_of layout_rules shape_rules path_rules count_rules head_rule order_rule fetch_rule row_rules step_rules many_rules body_rules turn_rules turns_from fact_rules verdict decimal_in decimal line line_of_two lines_from bound_lines listing_of
tree_numbers_hold = refl
