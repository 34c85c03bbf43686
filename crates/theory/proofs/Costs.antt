-- Visits and what they cost, and the cost of some nodes split over others.
use Prim.Native.Nat.{ℕ, ◌+◌, ◌≤◌, ◌<◌}
use native.Mathlib.Omega.{arith}
use mathlib.Core.Path.{◌≡◌, refl}
use mathlib.Core.Bool.{Bool, true, false, cond}
use mathlib.Core.List.{List, [], ◌∷◌}
use Rattle.paper.specs.Lists.{sum_to}
use Rattle.theory.proofs.SumLaws.{sum_at, sum_add}

pub record Visit : Type 0 where
  pub node : ℕ
  pub cost : ℕ

-- what the visits of the nodes that pass the test cost
abbrev pub paid : (ℕ → Bool) → List Visit → ℕ
paid test [] = 0
paid test (a ∷ r) = cond (test a.node) a.cost 0 + paid test r

pub paid_none : (r : List Visit) → paid (λ v. false) r ≡ 0
paid_none [] = refl
paid_none (a ∷ r) = omega (arith, paid_none r)

-- A node that passes the test is one of `other`, or of a part that is on.
module _ (test other on : ℕ → Bool) (part : ℕ → ℕ → Bool) (n : ℕ)
    (split : (v : ℕ) → test v ≡ true → other v ≡ false → (i : ℕ) × (i < n) × (on i ≡ true) × (part i v ≡ true)) where
  one : (v x : ℕ) (s t : Bool) → test v ≡ s → other v ≡ t → cond s x 0 ≤ sum_to (λ i. cond (on i) (cond (part i v) x 0) 0) n + cond t x 0
  one v x false t h k = omega arith
  one v x true true h k = omega arith
  one v x true false h k = let (i, l, p, q) = split v h k in at i l p q
    where
      at : (i : ℕ) → i < n → on i ≡ true → part i v ≡ true → x ≤ sum_to (λ i. cond (on i) (cond (part i v) x 0) 0) n + 0
      at i l p q =
          let z : cond (on i) (cond (part i v) x 0) 0 ≡ x = rw (p, q) refl in
          omega (arith, sum_at (λ i. cond (on i) (cond (part i v) x 0) 0) n i l)

  pub paid_split : (r : List Visit) → paid test r ≤ sum_to (λ i. cond (on i) (paid (part i) r) 0) n + paid other r
  paid_split [] = omega arith
  paid_split (a ∷ r) =
      omega (
        arith,
        one a.node a.cost (test a.node) (other a.node) refl refl,
        sum_add on (λ i. cond (part i a.node) a.cost 0) (λ i. paid (part i) r) n,
        paid_split r,
      )
