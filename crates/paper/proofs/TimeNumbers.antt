-- The time of the paper's file, by computation: nodes 0 and 3 once, and ten rounds of 1 and 2, and a penalty for each of the four misses.
use Prim.Native.Nat.{◌+◌, ◌*◌}
use mathlib.Core.Path.{◌≡◌, refl}
use mathlib.Core.List.{[], ◌∷◌}
use lib.ListN.{get_or}
use Rattle.paper.specs.Lists.{least_from, least, some, sum_to, chain, lowest_to, highest_to, in_turn}
use Rattle.paper.specs.Machines.{set_count}
use Rattle.paper.specs.Cases.{inside, range_of}
use Rattle.paper.specs.Graphs.{around, at_most, header_visits, innermost, count, outer, entries_of, entries}
use Rattle.paper.specs.Bounds.{ceil, bound_of, floor_of, covers, counts, entered, fact_bound, lives, uncovered, sum_of, A, M, floor_at, set_bound, total_bound}
use Rattle.paper.specs.Records.{loop_fields, loop_size}
use Rattle.paper.specs.Files.{u16_at, u32_at, trailer_of, visits_by, node_at, from_at, to_at, loop_at, fact_end, fact_place, case_of, read_case}
use Rattle.paper.specs.Times.{step_loop, step_first, step_time, way_before, way_to, ways, longest_way, entry_time, loop_times, longest, graph_time}
use Rattle.paper.specs.Checked.{paper_file}

pub paper_time : let e = read_case (paper_file 1) in graph_time e (λ v. get_or (3 ∷ 5 ∷ 7 ∷ 2 ∷ []) v 0) 100 (total_bound e 0) ≡ 3 + 10 * (5 + 7) + 2 + 100 * 4
unfolding least_from least some sum_to chain lowest_to highest_to in_turn set_count inside range_of around at_most header_visits innermost count outer entries_of entries ceil bound_of floor_of covers counts entered fact_bound lives uncovered sum_of A M floor_at set_bound total_bound u16_at u32_at trailer_of loop_fields loop_size visits_by node_at from_at to_at loop_at fact_end fact_place case_of step_loop step_first step_time way_before way_to ways longest_way entry_time loop_times longest graph_time
paper_time = refl
