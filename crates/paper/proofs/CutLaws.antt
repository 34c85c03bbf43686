-- Ways in words of a fixed size: where each time is cut at K and each number of the table at K + 1, the longest way comes out cut at K.
use Prim.Native.Nat.{ℕ, zero, suc, ◌+◌, ◌-◌, ◌*◌, ◌≤◌, ◌<◌, min}
use native.Mathlib.Omega.{arith}
use native.Mathlib.Decide.{dec_le}
use native.Mathlib.Nat.{mul-le-mul_left, mul-le-mul_right}
use mathlib.Core.Path.{◌≡◌, refl}
use mathlib.Core.Logic.{⊎_elim, dite}
use mathlib.Core.Bool.{Bool, true, false, cond, ◌&&◌}
use mathlib.Core.List.{List}
use borrow.Author.Tests.{ne_eqb}
use lib.Dec.{eqb, ltb}
use lib.ListN.{get_or}
use Rattle.paper.specs.Lists.{bit, highest_to, in_turn}
use Rattle.paper.specs.Cases.{Case}
use Rattle.paper.specs.Times.{step_first, step_time, way_before, way_to, ways, longest_way}
use Rattle.paper.proofs.Highest.{highest_cut}
use Rattle.paper.proofs.TurnLaws.{turn_cut}
use Rattle.paper.proofs.TimeLaws.{step_of, free_time, held_time}

-- B rounds of a way
pub rounds_cut : (K B x : ℕ) → 1 ≤ B → min (B * x) K ≡ min (B * min x K) K
rounds_cut K B x h =
    dite (dec_le x K)
    (λ l. let z : min x K ≡ x = omega arith in rw z refl)
    (λ l.
    let z : min x K ≡ K = omega arith in
    let le : K ≤ x = omega arith in
    rw z (omega (arith, mul-le-mul_left B le, mul-le-mul_right K h)))

-- a step's time is added, where a way leads there: p and s are q and r, cut
adds_cut :
    (K p q s r : ℕ) → p ≡ min q (suc K) → min s K ≡ min r K
    → min (cond (eqb p 0) 0 (p + s)) (suc K) ≡ min (cond (eqb q 0) 0 (q + r)) (suc K)
adds_cut K zero zero s r h l = refl
adds_cut K zero (suc q) s r h l = absurd (omega arith)
adds_cut K (suc p) zero s r h l = absurd (omega arith)
adds_cut K (suc p) (suc q) s r h l = rw (ne_eqb (suc p) 0 (omega arith), ne_eqb (suc q) 0 (omega arith)) (omega arith)

-- t has the times of the loops from k on, cut or not as x has them
module _ (e : Case) (cost t x : ℕ → ℕ) (K k a : ℕ) (same : (j : ℕ) → k ≤ j → j < e.loops → min (t j) K ≡ min (x j) K) where
  step_cut : (v : ℕ) → min (step_time e cost t k v) K ≡ min (step_time e cost x k v) K
  step_cut v =
      ⊎_elim
      (λ f. omega (arith, free_time e k v f cost t, free_time e k v f cost x))
      (λ r. omega (arith, held_time e k v r.0 r.1 cost t, held_time e k v r.0 r.1 cost x, same r.0 r.1.from r.1.below))
      (step_of e k v)

  module _ (w y : ℕ → ℕ) (cut : (u : ℕ) → w u ≡ min (y u) (suc K)) where
    came_cut : (b : Bool) (u : ℕ) → cond b (w u) 0 ≡ min (cond b (y u) 0) (suc K)
    came_cut true u = cut u
    came_cut false u = omega arith

    before_cut : (v : ℕ) → way_before e a w v ≡ min (way_before e a y v) (suc K)
    unfolding way_before
    before_cut v =
        omega (
          arith,
          highest_cut (suc K) (λ i. cond (eqb (e.to i) v && ltb (e.from i) v) (w (e.from i)) 0) (λ i. cond (eqb (e.to i) v && ltb (e.from i) v) (y (e.from i)) 0)
              (λ i. came_cut (eqb (e.to i) v && ltb (e.from i) v) (e.from i)) e.edges,
          bit_low (eqb v a),
        )
      where
        bit_low : (b : Bool) → bit b ≤ 1
        bit_low true = omega arith
        bit_low false = omega arith

    way_cut : (v : ℕ) → min (way_to e cost t k a w v) (suc K) ≡ min (way_to e cost x k a y v) (suc K)
    unfolding way_to
    way_cut v = go (ltb (step_first e k v) v)
      where
        go :
            (b : Bool)
            → min (cond b (w (step_first e k v)) (cond (eqb (way_before e a w v) 0) 0 (way_before e a w v + step_time e cost t k v))) (suc K)
            ≡ min (cond b (y (step_first e k v)) (cond (eqb (way_before e a y v) 0) 0 (way_before e a y v + step_time e cost x k v))) (suc K)
        go true = omega (arith, cut (step_first e k v))
        go false = adds_cut K _ _ _ _ (before_cut v) (step_cut v)

  -- the table of ways, cut as it is made
  abbrev pub cut_ways : ℕ → List ℕ
  cut_ways m = in_turn (λ w v. min (way_to e cost t k a w v) (suc K)) m

  pub longest_cut : (m : ℕ) → highest_to (λ v. get_or (cut_ways m) v 0) m - 1 ≡ min (longest_way e cost x k a m) K
  unfolding longest_way ways
  longest_cut m =
      omega (
        arith,
        highest_cut (suc K) (λ v. get_or (cut_ways m) v 0) (λ v. get_or (in_turn (way_to e cost x k a) m) v 0)
            (turn_cut (suc K) (λ w v. min (way_to e cost t k a w v) (suc K)) (way_to e cost x k a) way_cut m) m,
      )
