-- The numbers of a file's facts and nodes are small, and so are their sums.
use Prim.Native.Nat.{ℕ, ◌%◌, ◌≤◌, ◌<◌}
use native.Mathlib.Omega.{arith}
use native.Mathlib.Nat.{mod-lt}
use mathlib.Core.Bool.{cond, not}
use mathlib.Core.List.{List}
use lib.Dec.{eqb}
use lib.ListN.{get_or}
use Rattle.paper.specs.declared.Trailer.{Trailer}
use Rattle.paper.specs.Machines.{none}
use Rattle.paper.specs.Graphs.{count}
use Rattle.paper.specs.Bounds.{covers, counts, entered, fact_bound}
use Rattle.paper.specs.Files.{node_at, case_of}
use Rattle.paper.proofs.Meaning.{SoundHead}
use Rattle.paper.proofs.BoundLaws.{cond_low, bound_low}
use Rattle.paper.specs.Known.{Laid}
use Rattle.paper.specs.Ceilings.{most_count}
use Rattle.formulas.specs.Largest.{largest_visits, largest_bound, largest_entered, largest_charged}
use Rattle.charge.specs.ReadyFile.{Lawful}
use Rattle.charge.specs.Sizes as Sizes
use Rattle.charge.specs.Tables.{weight, FactsAdded, NodesAdded}
use Rattle.charge.proofs.SmallSums.{sum_low}
use Rattle.charge.proofs.Tallies.{sets_low, limits_low}

module _ (f : List ℕ) (trailer : Trailer) (laid : Laid f trailer) (lawful : Lawful (case_of f trailer)) where
  -- "block b lives in set b mod S"
  pub set_low : (b : ℕ) → b % trailer.sets < Sizes.sets
  set_low b = let h : 0 < trailer.sets = omega (arith, laid.sets_low) in omega (arith, mod-lt b h, laid.sets_high)

  module _ (i : ℕ) (h : i < trailer.facts) where
    pub fact_head : SoundHead (case_of f trailer) ((case_of f trailer).fact i)
    unfolding case_of
    fact_head = lawful.heads i h

    -- N
    covered_low : counts (case_of f trailer) (covers (case_of f trailer) ((case_of f trailer).fact i)) ≤ largest_visits
    unfolding counts case_of
    covered_low =
        omega (
          arith,
          sum_low (λ v. cond (covers (case_of f trailer) ((case_of f trailer).fact i) v) (count (case_of f trailer) v) 0) most_count trailer.nodes
              (λ v q. cond_low (covers (case_of f trailer) ((case_of f trailer).fact i) v) (lawful.counts v q) (omega arith)),
          laid.nodes_high,
        )

    fetched : (p : ℕ) → entered (case_of f trailer) p ((case_of f trailer).fact i) ≤ counts (case_of f trailer) (covers (case_of f trailer) ((case_of f trailer).fact i))
    unfolding entered
    fetched p = omega arith

    pub fact_small : (p : ℕ) → (fact_bound (case_of f trailer) p ((case_of f trailer).fact i) ≤ largest_bound) × (entered (case_of f trailer) p ((case_of f trailer).fact i) ≤ largest_visits)
    unfolding fact_bound case_of
    fact_small p = (
      omega (
        arith,
        bound_low trailer.policy trailer.ways ((case_of f trailer).fact i).limit (entered (case_of f trailer) p ((case_of f trailer).fact i)) _ (fetched p),
        covered_low,
      ),
      omega (arith, fetched p, covered_low),
    )

  pub weight_small : (v : ℕ) → v < trailer.nodes → weight (case_of f trailer) v ≤ most_count
  unfolding weight case_of
  weight_small v h = cond_low (not (eqb (node_at f v) none)) (lawful.counts v h) (omega arith)

  module _ (p : ℕ) (charged entries : List ℕ) (w : FactsAdded (case_of f trailer) p trailer.facts charged entries) where
    pub charged_small : (j : ℕ) → j < Sizes.sets → get_or charged j 0 ≤ largest_charged
    charged_small j l = omega (arith, sets_low _ _ _ _ _ _ _ w largest_bound largest_visits (λ i h. fact_small i h p) j l, laid.facts_high)

    pub entered_small : (j : ℕ) → j < Sizes.sets_by_limits → get_or entries j 0 ≤ largest_entered
    entered_small j l = omega (arith, limits_low _ _ _ _ _ _ _ w largest_bound largest_visits (λ i h. fact_small i h p) j l, laid.facts_high)

  module _ (fetched spent : List ℕ) (w : NodesAdded (case_of f trailer) trailer.nodes fetched spent) where
    both : (v : ℕ) → v < trailer.nodes → (weight (case_of f trailer) v ≤ most_count) × (weight (case_of f trailer) v ≤ most_count)
    both v h = (weight_small v h, weight_small v h)

    pub fetched_small : (j : ℕ) → j < Sizes.sets → get_or fetched j 0 ≤ largest_visits
    fetched_small j l = omega (arith, sets_low _ _ _ _ _ _ _ w most_count most_count both j l, laid.nodes_high)

    pub spent_small : (j : ℕ) → j < Sizes.sets_by_limits → get_or spent j 0 ≤ largest_visits
    spent_small j l = omega (arith, limits_low _ _ _ _ _ _ _ w most_count most_count both j l, laid.nodes_high)
