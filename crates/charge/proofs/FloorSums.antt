-- The law of the loop that takes the least of A and the floors of a set.
use Prim.Native.Nat.{ℕ, suc, ◌+◌, ◌-◌, ◌*◌, ◌≤◌, ◌<◌, min}
use native.Mathlib.Omega.{arith}
use native.Mathlib.Numerals.{add-one}
use mathlib.Core.Path.{◌≡◌, refl, ◌∙◌, ap}
use mathlib.Core.Bool.{true, false}
use mathlib.Core.List.{List}
use lib.ListN.{get_or}
use Rattle.paper.specs.declared.Trailer.{Trailer}
use Rattle.paper.specs.Lists.{lowest_to}
use Rattle.paper.specs.Cases.{Case}
use Rattle.paper.specs.Policies.{parts_of}
use Rattle.paper.specs.Bounds.{floor_of, A, M, floor_at, set_bound}
use Rattle.paper.specs.Files.{case_of}
use Rattle.paper.proofs.Sums.{Lowest, lowest_start, lowest_more}
use Rattle.formulas.specs.Largest.{largest_visits, largest_entered, largest_m, largest_a}
use Rattle.charge.specs.Sizes as Sizes
use Rattle.charge.specs.Summed.{Summed}
use Rattle.charge.specs.Tables.{place_of}
use Rattle.charge.proofs.Small.{fact_head, charged_small, entered_small, fetched_small, spent_small}
use Rattle.charge.proofs.SetTables.{A_is, M_start, M_more}

-- the loop has come to j, with m = M(j) and x the least so far
pub record Flooring (e : Case) (p q a m x j : ℕ) : Type 0 where
  pub lowest : Lowest (floor_at e p q) a e.ways x j
  pub sum : m ≡ M e p j q
  pub small : m ≤ largest_visits + largest_entered * j

module _ (f : List ℕ) (trailer : Trailer) (p : ℕ) (charged entered fetched spent : List ℕ) (s : Summed f trailer p charged entered fetched spent) (q : ℕ) (hq : q < Sizes.sets) where
  sum_A : get_or charged q 0 + get_or spent (place_of q Sizes.no_limit) 0 ≡ A (case_of f trailer) p q
  unfolding case_of
  sum_A = A_is (case_of f trailer) (fact_head f trailer s.laid s.lawful) s.laid.ways_high p q charged entered fetched spent s.facts s.nodes hq

  pub A_small : get_or charged q 0 + get_or spent (place_of q Sizes.no_limit) 0 ≤ largest_a
  A_small =
      omega (
        arith,
        charged_small f trailer s.laid s.lawful p charged entered s.facts q hq,
        spent_small f trailer s.laid s.lawful fetched spent s.nodes (place_of q Sizes.no_limit) (omega arith),
      )

  pub floor_set :
      (r : ℕ) → (parts_of trailer.policy).floors ≡ true → r ≡ lowest_to (floor_at (case_of f trailer) p q) (get_or charged q 0 + get_or spent (place_of q Sizes.no_limit) 0) trailer.ways
      → r ≡ set_bound (case_of f trailer) p q
  unfolding case_of set_bound
  floor_set r h e = rw h (e ∙ ap (λ x. lowest_to (floor_at (case_of f trailer) p q) x trailer.ways) sum_A)

  pub other_set : (parts_of trailer.policy).floors ≡ false → get_or charged q 0 + get_or spent (place_of q Sizes.no_limit) 0 ≡ set_bound (case_of f trailer) p q
  unfolding case_of set_bound
  other_set h = rw h sum_A

  pub flooring_start : (a : ℕ) → Flooring (case_of f trailer) p q a (get_or fetched q 0) a 0
  unfolding case_of
  flooring_start a =
      record {
        lowest = lowest_start (floor_at (case_of f trailer) p q) a trailer.ways;
        sum = M_start (case_of f trailer) (fact_head f trailer s.laid s.lawful) s.laid.ways_high p q charged entered fetched spent s.facts s.nodes hq;
        small = omega (arith, fetched_small f trailer s.laid s.lawful fetched spent s.nodes q hq);
      }

  module _ (a m x j : ℕ) (w : Flooring (case_of f trailer) p q a m x j) (h : j < trailer.ways) where
    abbrev in_E : ℕ
    in_E = get_or entered (place_of q (j + 1)) 0

    abbrev out : ℕ
    out = get_or spent (place_of q (j + 1)) 0

    next_M : m + in_E ≡ M (case_of f trailer) p (suc j) q + out
    unfolding case_of
    next_M =
        rw (add-one, w.sum)
        (M_more (case_of f trailer) (fact_head f trailer s.laid s.lawful) s.laid.ways_high p q charged entered fetched spent s.facts s.nodes hq j (omega (arith, s.laid.ways_high)))

    -- nothing is taken that is not there
    pub out_fits : out ≤ m + in_E
    out_fits = omega (arith, next_M)

    pub in_small : m + in_E ≤ largest_visits + largest_entered * (j + 1)
    in_small =
        omega (
          arith,
          w.small,
          entered_small f trailer s.laid s.lawful p charged entered s.facts (place_of q (j + 1)) (omega (arith, s.laid.ways_high)),
        )

    pub next_small : m + in_E - out ≤ largest_m
    next_small = omega (arith, in_small, s.laid.ways_high)

    pub flooring_more :
        (n y r : ℕ) → n ≡ m + in_E - out → y ≡ floor_of trailer.ways (j + 1) n → r ≡ min x y → Flooring (case_of f trailer) p q a n r (j + 1)
    unfolding case_of floor_at
    flooring_more n y r en ey er =
        let eM : n ≡ M (case_of f trailer) p (suc j) q = omega (arith, next_M, en) in
        record {
          lowest = lowest_more (floor_at (case_of f trailer) p q) a trailer.ways x j y r w.lowest h (ey ∙ rw (add-one, eM) refl) er;
          sum = rw add-one eM;
          small = omega (arith, in_small, en);
        }
