-- How large the numbers behind the bounds become: each ceiling by its reason, so that no sum or product wraps in 64 bits.
use Rattle.std.specs.Prelude.{ℕ, ◌+◌, ◌*◌}
use Rattle.paper.specs.Ceilings.{most_nodes, most_facts, most_count}

-- N: the counts of at most 1,024 nodes. The lesser of E + p and N is no larger, whatever p is.
abbrev pub largest_visits : ℕ
largest_visits = most_nodes * most_count

-- a fact's bound: never above that lesser and N together
abbrev pub largest_bound : ℕ
largest_bound = 2 * largest_visits

-- those lessers of a set's facts, of which there are at most 256
abbrev pub largest_entered : ℕ
largest_entered = most_facts * largest_visits

-- M(l): all that the set's nodes fetch, and the lessers of its facts of each limit up to 8
abbrev pub largest_m : ℕ
largest_m = largest_visits + 8 * largest_entered

-- the bounds of a set's facts
abbrev pub largest_charged : ℕ
largest_charged = most_facts * largest_bound

-- A, and with it a set's bound
abbrev pub largest_a : ℕ
largest_a = largest_charged + largest_visits
