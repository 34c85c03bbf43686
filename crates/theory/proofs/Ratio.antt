-- FIFO with k lines against LRU with l lines that start empty: k - l + 1 times FIFO's misses are at most k times LRU's, for each access and what is saved.
use Prim.Native.Nat.{ℕ, zero, suc, ◌+◌, ◌*◌, ◌≤◌}
use mathlib.Core.Path.{◌≡◌, refl, ap}
use mathlib.Core.Logic.{◌≢◌}
use mathlib.Core.Bool.{cond}
use mathlib.Core.List.{List, [], ◌∷◌}
use native.Mathlib.Decide.{ℕ_discrete, dec_le}
use native.Mathlib.Omega.{arith}
use borrow.Author.Tests.{eq-eqb, ne_eqb}
use lib.Dec.{eqb}
use lib.ListN.{length, replicate}
use Rattle.paper.specs.Machines.{none, line_of}
use Rattle.theory.proofs.Count.{cnt, sum}
use Rattle.theory.proofs.Ideal.{miss, shift, lru, fifo}
use Rattle.theory.proofs.Lines.{length_shift, line_le, line_front, line_cons, line_shift, sum_shift, sum_shift_in, fifo_in, fifo_out, times_in, times_out, line_out}

-- what a block of LRU's lines weighs: its line in FIFO's, or k where it is not there
unfoldable pub weight : List ℕ → ℕ → ℕ
weight s z = cond (eqb z none) 0 (line_of s z)

sum_le : (w w' : ℕ → ℕ) (r : List ℕ) → ((z : ℕ) → w' z ≤ suc (w z)) → sum w' r ≤ sum w r + length r
unfolding sum
sum_le w w' [] h = omega arith
sum_le w w' (y ∷ r) h = omega (arith, h y, sum_le w w' r h)

-- a miss takes x's own weight to 0 and raises each of the n others by at most 1
sum_front : (w w' : ℕ → ℕ) (x n : ℕ) (t : List ℕ) → length t ≡ suc n → w' x ≡ 0 → ((z : ℕ) → w' z ≤ suc (w z)) → sum w' (lru x t) + w x ≤ sum w (lru x t) + n
unfolding sum shift
sum_front w w' x n [] l e h = omega arith
sum_front w w' x n (y ∷ t) l e h = omega (arith, length_shift x x (y ∷ t), sum_le w w' (cond (eqb y x) t (shift x y t)) h)

weight_le : (s : List ℕ) (z : ℕ) → weight s z ≤ length s
unfolding weight
weight_le s z = elim (ℕ_discrete z none) [ yes p ↦ rw eq-eqb (omega arith) | no q ↦ rw ne_eqb (line_le z s) ]

module _ (s : List ℕ) (x : ℕ) (e : x ≢ none) where
  weight_out : ¬ (1 ≤ cnt x s) → weight s x ≡ length s
  unfolding weight
  weight_out o = rw ne_eqb (line_out x s o)

  weight_front : weight (lru x s) x ≡ 0
  unfolding weight
  weight_front = rw ne_eqb (line_front x s)

  weight_lru : (z : ℕ) → weight (lru x s) z ≤ suc (weight s z)
  unfolding weight
  weight_lru z =
      elim (ℕ_discrete z none) [
        | yes p ↦ rw eq-eqb (omega arith)
        | no q ↦
            rw ne_eqb
            (elim (ℕ_discrete x z) [
              | yes p ↦ omega (arith, line_front x s, ap (λ (u : ℕ). line_of (lru x s) u) p)
              | no r ↦ omega (arith, line_shift z x x s r, line_cons z x s)
            ])
      ]

module _ (d k n : ℕ) (dk : d + n ≡ k) where
  pub ratio_step : (x : ℕ) (s t : List ℕ) → x ≢ none → length s ≡ k → length t ≡ suc n → d * miss x s + sum (weight (fifo x s)) (lru x t) ≤ k * miss x t + sum (weight s) t
  ratio_step x s t e hs ht =
      elim (dec_le 1 (cnt x s)) [
        | yes i ↦
            rw fifo_in
            (elim (dec_le 1 (cnt x t)) [
              | yes j ↦ omega (arith, times_in d x s i, sum_shift_in (weight s) x x t j)
              | no j ↦ omega (arith, times_in d x s i, times_out k x t j, sum_shift (weight s) x x t, weight_le s x)
            ])
        | no i ↦
            let f = sum_front (weight s) (weight (lru x s)) x n t ht (weight_front s x e) (weight_lru s x e) in
            let o = weight_out s x e i in
            rw fifo_out
            (elim (dec_le 1 (cnt x t)) [
              | yes j ↦ omega (arith, times_out d x s i, sum_shift_in (weight s) x x t j)
              | no j ↦ omega (arith, times_out d x s i, times_out k x t j, sum_shift (weight s) x x t)
            ])
      ]

pub sum_empty : (s : List ℕ) (m : ℕ) → sum (weight s) (replicate m none) ≡ 0
unfolding sum weight
sum_empty s zero = refl
sum_empty s (suc m) = omega (arith, sum_empty s m)
