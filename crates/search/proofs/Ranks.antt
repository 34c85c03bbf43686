-- The rank of a row, by its number: 9, then the sets by their size, then "many". A block that is put into a row changes nothing, because nothing is new, or raises the rank.
use Prim.Native.Nat.{ℕ, zero, suc, ◌*◌, ◌≤◌, ◌<◌}
use native.Mathlib.Omega.{arith}
use native.Mathlib.Decide.{ℕ_discrete, dec_lt}
use mathlib.Core.Path.{◌≡◌, refl, ◌∙◌, ap, subst}
use mathlib.Core.Logic.{◌≢◌, ◌⊎◌, inl, inr, ⊎_elim}
use mathlib.Core.Bool.{Bool, cond}
use mathlib.Core.List.{List}
use borrow.Author.Tests.{lt-ltb, le-ltb, eq-eqb, ne_eqb}
use lib.Dec.{eqb, ltb}
use Rattle.paper.specs.Lists.{sum_to}
use Rattle.paper.proofs.Says.{Says, holds, fails, says_lt, says_eq, says_or}
use Rattle.theory.proofs.SumLaws.{sum_le}
use Rattle.search.specs.Steps.{number_of, slot_of, plain, grown, fits, put, put_slots}
use Rattle.search.proofs.Placing.{plain_number, Among, among_says, grown_is}

unfoldable pub rank : ℕ → ℕ
rank n = cond (ltb n 8) (suc n) (cond (eqb n 8) 9 0)

module _ (n : ℕ) where
  pub rank_set : n < 8 → rank n ≡ suc n
  unfolding rank
  rank_set h = rw (lt-ltb n 8 h) refl

  pub rank_many : n ≡ 8 → rank n ≡ 9
  unfolding rank
  rank_many h = rw (le-ltb n 8 (omega arith), eq-eqb n 8 h) refl

  pub rank_nine : n ≡ 9 → rank n ≡ 0
  unfolding rank
  rank_nine h = rw (le-ltb n 8 (omega arith), ne_eqb n 8 (omega arith)) refl

  -- all but "many" are below it
  pub rank_below : n ≢ 8 → n ≤ 9 → rank n ≤ 8
  rank_below m h = elim (dec_lt n 8) [ yes l ↦ omega (arith, rank_set l) | no q ↦ omega (arith, rank_nine (omega arith)) ]

  pub rank_low : n ≤ 9 → rank n ≤ 9
  rank_low h = elim (ℕ_discrete n 8) [ yes p ↦ omega (arith, rank_many p) | no q ↦ omega (arith, rank_below q h) ]

-- One block more, where k is "many".
module _ (k : ℕ) where
  -- what came of the row
  pub data Put (r : List ℕ) (c : ℕ) : List ℕ → Type 0 where
    same : (number_of r ≡ 8) ⊎ Among r c → Put r c r
    more : number_of r ≢ 8 → ¬ Among r c → suc (number_of r) < k → Put r c (grown r c)
    full : number_of r ≢ 8 → ¬ Among r c → k ≤ suc (number_of r) → Put r c (plain 8)

  fits_says : (n : ℕ) → Says (suc n < k) (fits k n)
  fits_says n = says_lt _ _

  pub put_is : (r : List ℕ) (c : ℕ) → Put r c (put k r c)
  unfolding put
  put_is r c = go (says_or (says_eq (number_of r) 8) (among_says r c)) (fits_says (number_of r))
    where
      go : {a b : Bool} → Says ((number_of r ≡ 8) ⊎ Among r c) a → Says (suc (number_of r) < k) b → Put r c (cond a r (cond b (grown r c) (plain 8)))
      go (holds h) s = same h
      go (fails n) (holds l) = more (λ p. n (inl p)) (λ p. n (inr p)) l
      go (fails n) (fails l) = full (λ p. n (inl p)) (λ p. n (inr p)) (omega arith)

  module _ (low : k ≤ 8) where
    abbrev rank_of : List ℕ → ℕ
    rank_of r = rank (number_of r)

    put_low : (r : List ℕ) (c : ℕ) (s : List ℕ) → Put r c s → number_of r ≤ 9 → number_of s ≤ 9
    put_low r c s (same h) l = l
    put_low r c s (more n m h) l = omega (arith, grown_is r c)
    put_low r c s (full n m h) l = omega (arith, plain_number 8)

    -- nothing is changed because nothing is new, or the rank grows
    pub put_grows : (r : List ℕ) (c : ℕ) (s : List ℕ) → Put r c s → number_of r ≤ 9 → ((s ≡ r) × ((number_of r ≡ 8) ⊎ Among r c)) ⊎ (rank_of r < rank_of s)
    put_grows r c s (same h) l = inl (refl, h)
    put_grows r c s (more n m h) l = let z = grown_is r c in inr (omega (arith, rank_set (number_of r) (omega arith), rank_set (number_of (grown r c)) (omega arith)))
    put_grows r c s (full n m h) l = inr (omega (arith, rank_below (number_of r) n l, rank_many (number_of (plain 8)) (plain_number 8)))

    -- the same of several
    abbrev pub All : List ℕ → List ℕ → ℕ → Type 0
    All r s n = (number_of s ≡ 8) ⊎ ((i : ℕ) → i < n → Among s (slot_of r i))

    all_more : (r s : List ℕ) (n : ℕ) → All r s n → (number_of s ≡ 8) ⊎ Among s (slot_of r n) → All r s (suc n)
    all_more r s n (inl p) b = inl p
    all_more r s n (inr a) (inl p) = inl p
    all_more r s n (inr a) (inr b) = inr (λ i h. elim (ℕ_discrete i n) [ yes p ↦ rw p b | no q ↦ a i (omega arith) ])

    pub puts_low : (r s : List ℕ) (n : ℕ) → number_of s ≤ 9 → number_of (put_slots k r s n) ≤ 9
    unfolding put_slots
    puts_low r s zero l = l
    puts_low r s (suc n) l = put_low _ _ _ (put_is (put_slots k r s n) (slot_of r n)) (puts_low r s n l)

    pub puts_grow : (r s : List ℕ) (n : ℕ) → number_of s ≤ 9 → ((put_slots k r s n ≡ s) × All r s n) ⊎ (rank_of s < rank_of (put_slots k r s n))
    unfolding put_slots
    puts_grow r s zero l = inl (refl, inr (λ i h. absurd (omega arith)))
    puts_grow r s (suc n) l =
        ⊎_elim
        (λ a.
        ⊎_elim (λ b. inl (b.0 ∙ a.0, all_more r s n a.1 (subst (λ (m : List ℕ). (number_of m ≡ 8) ⊎ Among m (slot_of r n)) a.0 b.1)))
        (λ b. inr (omega (arith, ap rank_of a.0)))
        next)
        (λ a. ⊎_elim (λ b. inr (omega (arith, ap rank_of b.0))) (λ b. inr (omega arith)) next)
        (puts_grow r s n l)
      where
        next : ((put k (put_slots k r s n) (slot_of r n) ≡ put_slots k r s n) × ((number_of (put_slots k r s n) ≡ 8) ⊎ Among (put_slots k r s n) (slot_of r n)))
            ⊎ (rank_of (put_slots k r s n) < rank_of (put k (put_slots k r s n) (slot_of r n)))
        next = put_grows _ _ _ (put_is (put_slots k r s n) (slot_of r n)) (puts_low r s n l)

-- The measure: the ranks of all rows are at most 9 for each, and grow where one grows and none falls.
module _ (f : ℕ → ℕ) where
  pub ranks_low : (n : ℕ) → ((j : ℕ) → j < n → f j ≤ 9) → sum_to (λ j. rank (f j)) n ≤ 9 * n
  unfolding sum_to
  ranks_low zero h = omega arith
  ranks_low (suc n) h = omega (arith, ranks_low n (λ j l. h j (omega arith)), rank_low (f n) (h n (omega arith)))

  pub ranks_grow :
      (g : ℕ → ℕ) (n i : ℕ) → i < n → rank (f i) < rank (g i) → ((j : ℕ) → j < n → rank (f j) ≤ rank (g j))
      → sum_to (λ j. rank (f j)) n < sum_to (λ j. rank (g j)) n
  unfolding sum_to
  ranks_grow g zero i h l a = absurd (omega arith)
  ranks_grow g (suc n) i h l a =
      elim (ℕ_discrete i n) [
        | yes p ↦
            let z : rank (f n) < rank (g n) = rw p at l in
            omega (arith, sum_le (λ j. rank (f j)) (λ j. rank (g j)) n (λ j q. a j (omega arith)))
        | no m ↦ omega (arith, ranks_grow g n i (omega arith) l (λ j q. a j (omega arith)), a n (omega arith))
      ]
