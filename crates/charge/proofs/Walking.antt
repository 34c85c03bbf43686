-- The laws of the loop that adds the nodes.
use Prim.Native.Nat.{ℕ, ◌+◌, ◌%◌, ◌<◌}
use native.Mathlib.Omega.{arith}
use mathlib.Core.Path.{◌≡◌}
use mathlib.Core.Bool.{cond, not}
use mathlib.Core.List.{List}
use lib.Dec.{eqb}
use lib.ListN.{get_or}
use Rattle.paper.specs.declared.Trailer.{Trailer}
use Rattle.paper.specs.Machines.{none}
use Rattle.paper.specs.Files.{node_at, case_of}
use Rattle.charge.specs.ReadyFile.{Ready}
use Rattle.charge.specs.Chained.{Covered}
use Rattle.charge.specs.Tables.{plus, place_of, Open, weight, NodesAdded}
use Rattle.charge.proofs.Cover.{lowest_high}
use Rattle.charge.proofs.Small.{set_low, weight_small}
use Rattle.charge.proofs.Tallies.{grouped_more, grouped_open}

-- a loop over the nodes is at node v
pub record Walking (f : List ℕ) (trailer : Trailer) (v : ℕ) (fetched spent : List ℕ) : Type 0 where
  pub added : NodesAdded (case_of f trailer) v fetched spent

module _ (f : List ℕ) (trailer : Trailer) (v : ℕ) (fetched spent : List ℕ) (w : Walking f trailer v fetched spent) where
  module _ (c cover : List ℕ) (r : Ready f trailer c) (k : Covered (case_of f trailer) trailer.facts cover) (h : v < trailer.nodes) (b x : ℕ) (eb : b ≡ node_at f v) (ex : x ≡ cond (not (eqb b none)) (get_or c v 0) 0) where
    amount : x ≡ weight (case_of f trailer) v
    unfolding case_of weight
    amount = rw (← r.counted.at v h, ← eb) ex

    pub walking_open : Open fetched spent (b % trailer.sets) (get_or cover v 0) x x
    unfolding case_of
    walking_open =
        rw (eb, amount, k.lowest v h)
        (grouped_open _ _ _ _ v fetched spent w.added (set_low f trailer r.laid r.lawful _) (omega (arith, lowest_high (case_of f trailer) trailer.facts v)) (omega (arith, r.laid.nodes_high))
        (λ j q. let s = weight_small f trailer r.laid r.lawful j (omega arith) in (omega (arith, s), omega (arith, s))))

    pub walking_more :
        (fetched' spent' : List ℕ) → fetched' ≡ plus fetched (b % trailer.sets) x → spent' ≡ plus spent (place_of (b % trailer.sets) (get_or cover v 0)) x
        → Walking f trailer (v + 1) fetched' spent'
    unfolding case_of
    walking_more fetched' spent' ef es =
        rw (ef, es, eb, amount, k.lowest v h)
        (record {
          added = grouped_more _ _ _ _ v fetched spent w.added (set_low f trailer r.laid r.lawful _) (omega (arith, lowest_high (case_of f trailer) trailer.facts v));
        })
