-- A set's misses are at most its bound, and all misses at most the total, in the machines on k lines.
use Prim.Native.Nat.{ℕ, zero, suc, ◌%◌, ◌≤◌, ◌<◌}
use native.Mathlib.Omega.{arith}
use native.Mathlib.Nat.{mod-lt}
use mathlib.Core.Path.{◌≡◌, refl, ap}
use mathlib.Core.Bool.{true, false, not, cond}
use mathlib.Core.List.{List}
use borrow.Author.Tests.{eqb-false, not-true}
use lib.Dec.{eqb}
use Rattle.paper.specs.Lists.{lowest_to}
use Rattle.paper.specs.Machines.{none}
use Rattle.paper.specs.Cases.{Case}
use Rattle.paper.specs.Walks.{Walk, KeepsLimits}
use Rattle.paper.specs.Runs.{Event, walk_of, interruptions}
use Rattle.paper.specs.Policies.{parts_of}
use Rattle.paper.specs.Bounds.{lives, any_fact, fact_bound, A, floor_at, set_bound, total_bound}
use Rattle.paper.proofs.Meaning.{Sound}
use Rattle.paper.proofs.Says.{says_is}
use Rattle.theory.proofs.Ranges.{some_set}
use Rattle.theory.proofs.SumLaws.{sum_le}
use Rattle.theory.proofs.Costs.{paid, paid_none, paid_split}
use Rattle.theory.proofs.Policies.{Policy, Lru, Fifo, Nmru, Tree, number, ideal, Fits, fair}
use Rattle.paper.proofs.TestLaws.{lives_says}
use Rattle.theory.proofs.Moves.{in_set, Contents, costs}
use Rattle.theory.proofs.FactBounds.{fact_bounded}
use Rattle.theory.proofs.SetSums.{set_sum}
use Rattle.theory.proofs.Floors.{by_floor}

lowest_le : (f : ℕ → ℕ) (x a n : ℕ) → x ≤ a → ((j : ℕ) → j < n → x ≤ f j) → x ≤ lowest_to f a n
unfolding lowest_to
lowest_le f x a zero h g = h
lowest_le f x a (suc n) h g = omega (arith, lowest_le f x a n h (λ j l. g j (omega arith)), g n (omega arith))

module _ (e : Case) (s : Sound e) (p : ℕ) (r : List Event) (walk : Walk e (walk_of r)) (kept : KeepsLimits e (walk_of r)) (few : interruptions r ≤ p) where
  by_A : (P : Policy) → e.policy ≡ number P → (o : Fits P e.ways) (c : Contents e (ideal P e.ways) r) →
      (q : ℕ) → paid (in_set e q) (costs e (ideal P e.ways) r c) ≤ A e p q
  unfolding A
  by_A P is o c q =
      set_sum e s r walk kept (ideal P e.ways) (fair P e.ways o) (any_fact e) (fact_bound e p) q c
      (λ i l z. fact_bounded e s p r walk kept few (e.fact i) (s.facts i l) P is o c)

  pub set_bounded : (P : Policy) → e.policy ≡ number P → (o : Fits P e.ways) (c : Contents e (ideal P e.ways) r) →
      (q : ℕ) → q < e.sets → paid (in_set e q) (costs e (ideal P e.ways) r c) ≤ set_bound e p q
  unfolding set_bound
  set_bounded P is o c q l = go P is o c
    where
      bound : ℕ → ℕ
      bound n = cond (parts_of n).floors (lowest_to (floor_at e p q) (A e p q) e.ways) (A e p q)

      go : (P : Policy) → e.policy ≡ number P → (o : Fits P e.ways) (c : Contents e (ideal P e.ways) r) →
          paid (in_set e q) (costs e (ideal P e.ways) r c) ≤ bound e.policy
      go Lru is o c = omega (arith, by_A Lru is o c q, ap bound is)
      go Fifo is o c =
          omega (
            arith,
            ap bound is,
            lowest_le (floor_at e p q) _ _ e.ways (by_A Fifo is o c q) λ j i.
                by_floor e j i q l s p r walk kept few c,
          )
      go Nmru is o c = omega (arith, by_A Nmru is o c q, ap bound is)
      go Tree is o c = omega (arith, by_A Tree is o c q, ap bound is)

  -- every fetch is of one set
  pub all_bounded : (P : Policy) → e.policy ≡ number P → (o : Fits P e.ways) (c : Contents e (ideal P e.ways) r) →
      paid (λ v. not (eqb (e.block v) none)) (costs e (ideal P e.ways) r c) ≤ total_bound e p
  unfolding total_bound
  all_bounded P is o c =
      let n = costs e (ideal P e.ways) r c in
      omega (
        arith,
        paid_split (λ v. not (eqb (e.block v) none)) (λ v. false) (λ q. true) (λ q v. lives e q (e.block v)) e.sets
            (λ v h k.
            (e.block v % e.sets, mod-lt (e.block v) (some_set e s), refl, says_is (lives_says e (e.block v % e.sets) (e.block v)) (eqb-false _ _ (not-true _ h), refl)))
            n,
        paid_none n,
        sum_le (λ q. paid (in_set e q) n) (set_bound e p) e.sets (λ q l. set_bounded P is o c q l),
      )
