-- Amounts by set s and limit x: the sums of those of set q with x up to l, and past l, grow and shrink by the sum at one place of a table.
use Prim.Native.Nat.{ℕ, suc, ◌+◌, ◌≤◌, ◌<◌}
use native.Mathlib.Omega.{arith}
use native.Mathlib.Decide.{ℕ_discrete, dec_le}
use mathlib.Core.Path.{◌≡◌, refl, ◌∙◌, ap}
use mathlib.Core.Bool.{Bool, true, false, cond, not, ◌&&◌, and-true, and-false}
use mathlib.Core.List.{List}
use borrow.Author.Tests.{le-leb, lt-leb, eq-eqb, ne_eqb}
use lib.Dec.{eqb, leb}
use lib.ListN.{length, get_or}
use Rattle.paper.specs.Lists.{sum_to}
use Rattle.paper.proofs.Says.{says_le, says_eq, says_not, says_and, says_same}
use Rattle.charge.specs.Sizes as Sizes
use Rattle.charge.specs.Tables.{Tallied, place_of}
use Rattle.charge.proofs.SmallSums.{sum_same, sum_both, sum_none}

-- a place tells the set and the limit
place_is : (s x q l : ℕ) → x < Sizes.limits → l < Sizes.limits → eqb (place_of s x) (place_of q l) ≡ (eqb s q && eqb x l)
place_is s x q l hx hl =
    says_same (λ (h : place_of s x ≡ place_of q l). (omega arith, omega arith)) (λ (h : (s ≡ q) × (x ≡ l)). omega arith) (says_eq _ _) (says_and (says_eq s q) (says_eq x l))

-- one more limit: what it adds to those up to l, and takes from those past l
one_more :
    (b : Bool) (x l a : ℕ)
    → (cond (b && leb x (suc l)) a 0 ≡ cond (b && leb x l) a 0 + cond (b && eqb x (suc l)) a 0)
    × (cond (b && not (leb x l)) a 0 ≡ cond (b && not (leb x (suc l))) a 0 + cond (b && eqb x (suc l)) a 0)
one_more false x l a = (refl, refl)
one_more true x l a =
    elim (dec_le x l) [
      | yes h ↦ rw (le-leb x l h, le-leb x (suc l) (omega arith), ne_eqb x (suc l) (omega arith)) (omega arith)
      | no h ↦
          rw (lt-leb x l (omega arith))
          (elim (ℕ_discrete x (suc l)) [
            | yes d ↦ rw (le-leb x (suc l) (omega arith), eq-eqb x (suc l) d) (omega arith)
            | no d ↦ rw (lt-leb x (suc l) (omega arith), ne_eqb x (suc l) d) (omega arith)
          ])
    ]

module _ (s x a : ℕ → ℕ) (q n : ℕ) where
  unfoldable pub up_to : ℕ → ℕ
  up_to l = sum_to (λ i. cond (eqb (s i) q && leb (x i) l) (a i) 0) n

  unfoldable pub beyond : ℕ → ℕ
  beyond l = sum_to (λ i. cond (eqb (s i) q && not (leb (x i) l)) (a i) 0) n

  module _ (table : List ℕ) (w : Tallied (λ i. place_of (s i) (x i)) a n table) (room : Sizes.sets_by_limits ≤ length table) (hq : q < Sizes.sets) (hx : (i : ℕ) → i < n → (1 ≤ x i) × (x i < Sizes.limits)) where
    here : (l : ℕ) → l < Sizes.limits → get_or table (place_of q l) 0 ≡ sum_to (λ i. cond (eqb (s i) q && eqb (x i) l) (a i) 0) n
    here l hl =
        w.is (place_of q l) (omega arith)
        ∙ sum_same _ _ n (λ i h. ap (λ (b : Bool). cond b (a i) 0) (place_is (s i) (x i) q l (hx i h).1 hl))

    pub up_more : (l : ℕ) → suc l < Sizes.limits → up_to (suc l) ≡ up_to l + get_or table (place_of q (suc l)) 0
    unfolding up_to
    up_more l hl =
        rw (here (suc l) hl) (sum_both _ _ _ n (λ i h. (one_more (eqb (s i) q) (x i) l (a i)).0))

    pub past_more : (l : ℕ) → suc l < Sizes.limits → beyond l ≡ beyond (suc l) + get_or table (place_of q (suc l)) 0
    unfolding beyond
    past_more l hl =
        rw (here (suc l) hl) (sum_both _ _ _ n (λ i h. (one_more (eqb (s i) q) (x i) l (a i)).1))

    -- past 8 only those without a limit are left
    pub past_last : beyond 8 ≡ get_or table (place_of q Sizes.no_limit) 0
    unfolding beyond
    past_last =
        rw (here Sizes.no_limit (omega arith)) (sum_same _ _ n (λ i h. ap (λ (b : Bool). cond (eqb (s i) q && b) (a i) 0) (last (x i) (hx i h).1)))
      where
        last : (x : ℕ) → x < Sizes.limits → not (leb x 8) ≡ eqb x Sizes.no_limit
        last x h = says_same (λ (n : ¬ (x ≤ 8)). omega arith) (λ (e : x ≡ Sizes.no_limit). omega arith) (says_not (says_le x 8)) (says_eq x Sizes.no_limit)

  module _ (hx : (i : ℕ) → i < n → 1 ≤ x i) where
    pub up_none : up_to 0 ≡ 0
    unfolding up_to
    up_none = sum_none _ n (λ i h. rw (lt-leb (x i) 0 (hx i h), and-false) refl)

    pub past_all : beyond 0 ≡ sum_to (λ i. cond (eqb (s i) q) (a i) 0) n
    unfolding beyond
    past_all = sum_same _ _ n (λ i h. rw (lt-leb (x i) 0 (hx i h), and-true) refl)
