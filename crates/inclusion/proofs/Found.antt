-- A run of LRU with eight ways from empty sets: each access misses w ways, or is found in one of the first w lines.
use Prim.Native.Nat.{ℕ, zero, suc, ◌+◌, ◌%◌, ◌≤◌}
use native.Mathlib.Omega.{arith}
use native.Mathlib.Decide.{ℕ_discrete, dec_lt}
use mathlib.Core.Path.{◌≡◌, refl, ap}
use mathlib.Core.Bool.{Bool, true, false, cond, not}
use mathlib.Core.List.{List, [], ◌∷◌}
use lib.Dec.{eqb, ltb}
use lib.ListN.{length}
use borrow.Author.Tests.{eq-eqb, ne_eqb, lt-ltb, le-ltb}
use Rattle.paper.specs.Lists.{bit, sum_to}
use Rattle.paper.specs.Policies.{lru_policy}
use Rattle.paper.specs.Machines.{empty_set, line_of, step}
use Rattle.paper.specs.Traces.{Content, after, miss_at, marks, total}
use Rattle.paper.specs.AllWays.{misses_with}
use Rattle.inclusion.specs.FoundLines.{found_at}
use Rattle.inclusion.proofs.FirstLines.{First, first_empty, first_step, first_hit}

-- a sum to which 1 is added at line n
sum_one : (n : ℕ) (f g : ℕ → ℕ) → ((j : ℕ) → g j ≡ bit (eqb n j) + f j) → (w : ℕ) → sum_to g w ≡ bit (ltb n w) + sum_to f w
unfolding sum_to
sum_one n f g h zero = rw (le-ltb n 0 (omega arith)) refl
sum_one n f g h (suc w) =
    elim (dec_lt n w) [
      | yes l ↦ rw (lt-ltb n (suc w) (omega arith)) (omega (arith, sum_one n f g h w, ap bit (lt-ltb n w l), h w, ap bit (ne_eqb n w (omega arith))))
      | no l ↦
          elim (ℕ_discrete n w) [
            | yes e ↦ rw (lt-ltb n (suc w) (omega arith)) (omega (arith, sum_one n f g h w, ap bit (le-ltb n w (omega arith)), h w, ap bit (eq-eqb n w e)))
            | no m ↦ rw (le-ltb n (suc w) (omega arith)) (omega (arith, sum_one n f g h w, ap bit (le-ltb n w (omega arith)), h w, ap bit (ne_eqb n w m)))
          ]
    ]

sum_none : (w : ℕ) → sum_to (λ j. 0) w ≡ 0
unfolding sum_to
sum_none zero = refl
sum_none (suc w) = omega (arith, sum_none w)

one_of : (t : Bool) → bit (not t) + bit t ≡ 1
one_of true = refl
one_of false = refl

module _ (sets w : ℕ) (low : 1 ≤ w) (high : w ≤ 8) where
  abbrev Firsts : Content → Content → Type 0
  Firsts c d = (q : ℕ) → First w low high (c q) (d q)

  firsts_after : (c d : Content) (b : ℕ) → Firsts c d → Firsts (after lru_policy 8 sets c b) (after lru_policy w sets d b)
  unfolding after
  firsts_after c d b h q = go (eqb (b % sets) q)
    where
      go : (t : Bool) → First w low high (cond t (step lru_policy 8 (c q) b).state (c q)) (cond t (step lru_policy w (d q) b).state (d q))
      go true = first_step w low high (c q) (d q) b (h q)
      go false = h q

  firsts_found : (c d : Content) → Firsts c d → (bs : List ℕ) → total (marks lru_policy w sets d bs) + sum_to (found_at sets c bs) w ≡ length bs
  unfolding marks total found_at miss_at
  firsts_found c d h [] = omega (arith, sum_none w)
  firsts_found c d h (b ∷ bs) =
      let n = line_of (c (b % sets)).lines b in
      omega (
        arith,
        sum_one n (found_at sets (after lru_policy 8 sets c b) bs) (found_at sets c (b ∷ bs)) (λ j. refl) w,
        ap (λ (t : Bool). bit (not t)) (first_hit w low high (c (b % sets)) (d (b % sets)) b (h (b % sets))),
        one_of (ltb n w),
        firsts_found (after lru_policy 8 sets c b) (after lru_policy w sets d b) (firsts_after c d b h) bs,
      )

  -- so the misses are the accesses less those found
  pub ways_found : (bs : List ℕ) → misses_with sets bs w + sum_to (found_at sets (λ q. empty_set) bs) w ≡ length bs
  unfolding misses_with
  ways_found bs = firsts_found (λ q. empty_set) (λ q. empty_set) (λ q. first_empty w low high) bs

-- "no count is larger than that for one way less"
pub fewer : (sets w : ℕ) → 1 ≤ w → suc w ≤ 8 → (bs : List ℕ) → misses_with sets bs (suc w) ≤ misses_with sets bs w
unfolding sum_to misses_with
fewer sets w low high bs = omega (arith, all_found w low (omega arith), all_found (suc w) (omega arith) high)
  where
    all_found : (w : ℕ) (low : 1 ≤ w) (high : w ≤ 8) → misses_with sets bs w + sum_to (found_at sets (λ q. empty_set) bs) w ≡ length bs
    all_found w low high = firsts_found sets w low high (λ q. empty_set) (λ q. empty_set) (λ q. first_empty w low high) bs
