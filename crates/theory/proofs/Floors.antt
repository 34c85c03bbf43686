-- FIFO's floors: FIFO with k ways beside LRU with l ways that starts empty and is emptied by each interruption, on the same walk, and M(l) bounds that LRU.
use Prim.Native.Nat.{ℕ, zero, suc, ◌+◌, ◌-◌, ◌*◌, ◌%◌, ◌≤◌, ◌<◌}
use native.Mathlib.Omega.{arith}
use native.Mathlib.Nat.{mul-add, mul-zero, mul_comm, mul-le-mul_left, le-div_iff_mul-le}
use mathlib.Core.Path.{◌≡◌, sym}
use mathlib.Core.Logic.{◌≢◌}
use mathlib.Core.Bool.{Bool, cond}
use mathlib.Core.List.{List, [], ◌∷◌}
use borrow.Author.Tests.{leb-true}
use lib.ListN.{replicate, length-replicate}
use Rattle.paper.specs.Machines.{none}
use Rattle.paper.specs.Cases.{Case}
use Rattle.paper.specs.Walks.{Walk, KeepsLimits}
use Rattle.paper.specs.Runs.{Event, visit, interruption, walk_of, interruptions}
use Rattle.paper.specs.Bounds.{entered, lives, up_to, M, floor_of, floor_at}
use Rattle.paper.proofs.Says.{Says, holds, fails}
use Rattle.paper.proofs.Meaning.{Sound}
use Rattle.theory.proofs.Count.{sum, one_no}
use Rattle.theory.proofs.Ideal.{Apart}
use Rattle.theory.proofs.Ratio.{weight, ratio_step, sum_empty}
use Rattle.theory.proofs.Law.{Machine}
use Rattle.theory.proofs.Lru.{LRU, lru_fair, lru_law}
use Rattle.theory.proofs.Fifo.{FIFO, fifo_fair}
use Rattle.theory.proofs.Costs.{paid}
use Rattle.paper.proofs.TestLaws.{lives_says}
use Rattle.theory.proofs.Moves.{in_set, Held, Fine, Contents, moved, move, miss_at, misses, costs, move_fine, miss_at_lem}
use Rattle.theory.proofs.FactRuns.{law_bound}
use Rattle.theory.proofs.SetSums.{set_sum}

-- n is l - 1
module _ (e : Case) (n : ℕ) (fits : n < e.ways) (q : ℕ) (low : q < e.sets) where
  -- "k-l+1"
  abbrev d : ℕ
  d = suc e.ways - suc n

  abbrev F : Machine
  F = FIFO e.ways

  abbrev L : Machine
  L = LRU (suc n)

  at_visit : (v : ℕ) (s : Held e F) (t : Held e L) → Fine e F s → Fine e L t →
      d * cond (lives e q (e.block v)) (miss_at e F v s) 0 + sum (weight (move e F v s q)) (move e L v t q)
      ≤ e.ways * cond (lives e q (e.block v)) (miss_at e L v t) 0 + sum (weight (s q)) (t q)
  unfolding moved
  at_visit v s t ls lt = go (lives_says e q (e.block v))
    where
      go : {g : Bool} → Says ((e.block v ≢ none) × (e.block v % e.sets ≡ q)) g →
          d * cond g (miss_at e F v s) 0 + sum (weight (cond g (F.step (e.block v) (s q)) (s q))) (cond g (L.step (e.block v) (t q)) (t q))
          ≤ e.ways * cond g (miss_at e L v t) 0 + sum (weight (s q)) (t q)
      go (holds h) =
          rw (miss_at_lem e F v s h.0, miss_at_lem e L v t h.0, h.1)
          (ratio_step d e.ways n (omega arith) (e.block v) (s q) (t q) h.0 (ls q low).lines_k (lt q low).lines_k)
      go (fails h) = omega (arith, mul-zero d, mul-zero e.ways)

  -- all sets empty
  abbrev blank : Held e L
  blank q = replicate (suc n) none

  blank_apart : (m : ℕ) → Apart (replicate m none)
  unfolding sum
  blank_apart zero x u = omega arith
  blank_apart (suc m) x u = omega (arith, one_no x none (λ p. u (sym p)), blank_apart m x u)

  blank_fine : Fine e L blank
  blank_fine q l = record { apart = blank_apart (suc n); lines_k = length-replicate (suc n) none }

  -- LRU starts empty, and each interruption empties it
  abbrev blanks : (r : List Event) → Contents e L r
  blanks r = record { start = blank; left = λ i. blank; fine = blank_fine; fines = λ i l. blank_fine }

  module _ (sound : Sound e) (p : ℕ) (r : List Event) (walk : Walk e (walk_of r)) (kept : KeepsLimits e (walk_of r)) (few : interruptions r ≤ p) where
    -- M(l) bounds LRU with l ways
    lru_M : paid (in_set e q) (costs e L r (blanks r)) ≤ M e p (suc n) q
    unfolding M
    lru_M =
        set_sum e sound r walk kept L (lru_fair (suc n)) (up_to e (suc n)) (entered e p) q (blanks r) λ i l z.
        let h = sound.facts i l in
        omega (
          arith,
          law_bound e sound p r walk kept few L (lru_fair (suc n)) (blanks r) (e.fact i) h 1 1 0
              (lru_law (suc n) (e.fact i).block ((e.fact i).limit - 1) (omega (arith, leb-true (e.fact i).limit (suc n) z, h.head.low))),
        )

    pub by_floor : (c : Contents e F r) → paid (in_set e q) (costs e F r c) ≤ floor_at e p q n
    unfolding floor_at floor_of
    by_floor c =
        let h : 0 < d = omega arith in
        (le-div_iff_mul-le h).1
        (omega (
          arith,
          compared r c.start c.left blank c.fine c.fines blank_fine,
          sum_empty (c.start q) (suc n),
          mul-le-mul_left e.ways lru_M,
          mul_comm (paid (in_set e q) (costs e F r c)) d,
        ))
      where
        -- an interruption may leave FIFO's set as it likes: LRU's is empty, so nothing is weighed
        compared : (r : List Event) (s : Held e F) (left : ℕ → Held e F) (t : Held e L) → Fine e F s → ((i : ℕ) → i < interruptions r → Fine e F (left i)) → Fine e L t →
            d * paid (in_set e q) (misses e F r s left) ≤ e.ways * paid (in_set e q) (misses e L r t (λ i. blank)) + sum (weight (s q)) (t q)
        compared [] s left t ls lf lt = omega (arith, mul-zero d)
        compared (visit v ∷ r) s left t ls lf lt =
            let z = compared r (move e F v s) left (move e L v t) (move_fine e F (fifo_fair e.ways) v s ls) lf (move_fine e L (lru_fair (suc n)) v t lt) in
            simp mul-add (omega (arith, at_visit v s t ls lt))
        compared (interruption ∷ r) s left t ls lf lt =
            omega (arith, compared r (left 0) (λ i. left (suc i)) blank (lf 0 (omega arith)) (λ i l. lf (suc i) (omega arith)) blank_fine, sum_empty (left 0 q) (suc n))
