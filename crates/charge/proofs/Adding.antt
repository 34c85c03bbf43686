-- The laws of the loop that adds the facts.
use Prim.Native.Nat.{ℕ, ◌+◌, ◌%◌, ◌<◌}
use native.Mathlib.Omega.{arith}
use native.Mathlib.Numerals.{add-one}
use mathlib.Core.Path.{◌≡◌, refl}
use mathlib.Core.List.{List}
use lib.ListN.{set}
use Rattle.paper.specs.declared.Trailer.{Trailer}
use Rattle.paper.specs.Bounds.{facts_from, covers}
use Rattle.paper.specs.Files.{fact_at, fact_place, case_of}
use Rattle.paper.proofs.Meaning.{SoundHead}
use Rattle.charge.specs.ReadyFile.{Ready}
use Rattle.charge.specs.Chained.{Limits, Lowered, Covered}
use Rattle.charge.specs.Sizes as Sizes
use Rattle.charge.specs.Tables.{plus, place_of, Open, FactsAdded, Part, cost_of}
use Rattle.charge.specs.declared.facts.Cost.{Cost}
use Rattle.charge.proofs.Cover.{covered_more, covered_limits}
use Rattle.charge.proofs.PartLaws.{part_fact}
use Rattle.charge.proofs.Small.{set_low, fact_head, fact_small}
use Rattle.charge.proofs.Tallies.{grouped_more, grouped_open}

-- a loop over the facts is at fact i, which stands at p
pub record Adding (f : List ℕ) (trailer : Trailer) (interruptions : ℕ) (old : List ℕ) (i p : ℕ) (cover charged entered numbers : List ℕ) : Type 0 where
  pub place : p ≡ fact_place f trailer i
  pub covered : Covered (case_of f trailer) i cover
  pub added : FactsAdded (case_of f trailer) interruptions i charged entered
  pub part : Part (case_of f trailer) interruptions 0 0 i old numbers

module _ (f : List ℕ) (trailer : Trailer) (interruptions : ℕ) (old : List ℕ) (i p : ℕ) (cover charged entered numbers : List ℕ) (w : Adding f trailer interruptions old i p cover charged entered numbers) where
  pub adding_limits : Limits (case_of f trailer) cover
  adding_limits = covered_limits (case_of f trailer) i cover w.covered

  module _ (c : List ℕ) (r : Ready f trailer c) (h : i < trailer.facts) where
    pub head_at : SoundHead (case_of f trailer) (fact_at f p)
    unfolding case_of
    head_at = rw w.place (fact_head f trailer r.laid r.lawful i h)

    limit_low : ((case_of f trailer).fact i).limit < Sizes.limits
    unfolding case_of
    limit_low = omega (arith, (fact_head f trailer r.laid r.lawful i h).high, r.laid.ways_high)

    module _ (k : Cost) (costs : k ≡ cost_of f trailer p interruptions) where
      pub adding_open : Open charged entered (k.block % trailer.sets) k.limit k.bound k.entered
      unfolding case_of cost_of
      adding_open =
          rw (costs, w.place)
          (grouped_open _ _ _ _ i charged entered w.added (set_low f trailer r.laid r.lawful _) limit_low (omega (arith, r.laid.facts_high))
          (λ j q. let s = fact_small f trailer r.laid r.lawful j (omega arith) interruptions in (s.0, omega (arith, s.1))))

      pub adding_more :
          (new charged' entered' : List ℕ) → Lowered (case_of f trailer) (covers (case_of f trailer) (fact_at f p)) (fact_at f p).limit cover new
          → charged' ≡ plus charged (k.block % trailer.sets) k.bound → entered' ≡ plus entered (place_of (k.block % trailer.sets) k.limit) k.entered
          → Adding f trailer interruptions old (i + 1) k.next new charged' entered' (set numbers (facts_from + i) k.bound)
      unfolding case_of cost_of fact_place
      adding_more new charged' entered' low ec ee =
          rw (ec, ee, costs, w.place)
          (record {
            place = rw add-one refl;
            covered = covered_more (case_of f trailer) i cover new w.covered (rw (← w.place) low);
            added = grouped_more _ _ _ _ i charged entered w.added (set_low f trailer r.laid r.lawful _) limit_low;
            part = part_fact (case_of f trailer) interruptions old i _ numbers (omega (arith, r.laid.facts_high)) refl w.part;
          })
