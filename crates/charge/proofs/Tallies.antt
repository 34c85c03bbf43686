-- The laws of lists to which amounts are added: by key; and by set, and by set and limit.
use Prim.Native.Nat.{ℕ, ◌+◌, ◌*◌, ◌≤◌, ◌<◌}
use native.Mathlib.Omega.{arith}
use native.Mathlib.Decide.{ℕ_discrete}
use native.Mathlib.Numerals.{add-one}
use mathlib.Core.Path.{refl, sym, ap, ◌∙◌}
use mathlib.Core.List.{List}
use borrow.Author.Tests.{eq-eqb, ne_eqb}
use lib.Dec.{eqb}
use lib.ListN.{length, get_or, length-set, replicate, get_or-replicate, length-replicate}
use lib.Seq.{get_or-set_same, get_or-set_other}
use Rattle.paper.specs.Lists.{sum_to}
use Rattle.formulas.specs.Largest.{largest_bound}
use Rattle.paper.proofs.BoundLaws.{cond_low}
use Rattle.charge.specs.Sizes as Sizes
use Rattle.charge.specs.Tables.{Tallied, plus, place_of, Grouped, Open}
use Rattle.charge.proofs.SmallSums.{sum_low}

module _ (key amount : ℕ → ℕ) where
  tallied_start : (m : ℕ) → Tallied key amount 0 (replicate m 0)
  unfolding sum_to
  tallied_start m = record { is = λ j h. get_or-replicate m j 0 0 (omega (arith, length-replicate {A = ℕ} m 0)) }

  module _ (n : ℕ) (l : List ℕ) (w : Tallied key amount n l) where
    tallied_more : key n < length l → Tallied key amount (n + 1) (plus l (key n) (amount n))
    unfolding sum_to
    tallied_more h =
        let y = get_or l (key n) 0 + amount n in
        rw add-one (record {
          is =
              λ j hj.
              let r : j < length l = omega (arith, length-set l (key n) y) in
              elim (ℕ_discrete (key n) j) [
                | yes q ↦ rw (← q, eq-eqb (key n) (key n) refl) (get_or-set_same l (key n) y 0 h ∙ omega (arith, w.is j r, ap (λ k. get_or l k 0) q))
                | no q ↦
                    rw (ne_eqb (key n) j q) (get_or-set_other l (key n) j y 0 (λ z. q (sym z)) ∙ omega (arith, w.is j r))
              ];
        })

    tallied_low : (b : ℕ) → ((i : ℕ) → i < n → amount i ≤ b) → (j : ℕ) → j < length l → get_or l j 0 ≤ b * n
    tallied_low b h j r = rw (w.is j r) (sum_low _ b n (λ i q. cond_low (eqb (key i) j) (h i q) (omega arith)))

module _ (s l x y : ℕ → ℕ) where
  -- nothing is added
  pub grouped_start : Grouped s l x y 0 (replicate Sizes.sets 0) (replicate Sizes.sets_by_limits 0)
  grouped_start =
      record {
        sets_room = omega (arith, length-replicate {A = ℕ} Sizes.sets 0);
        limits_room = omega (arith, length-replicate {A = ℕ} Sizes.sets_by_limits 0);
        by_set = tallied_start _ _ Sizes.sets;
        by_limit = tallied_start _ _ Sizes.sets_by_limits;
      }

  module _ (n : ℕ) (sets limits : List ℕ) (w : Grouped s l x y n sets limits) where
    pub grouped_more : s n < Sizes.sets → l n < Sizes.limits → Grouped s l x y (n + 1) (plus sets (s n) (x n)) (plus limits (place_of (s n) (l n)) (y n))
    grouped_more hs hl =
        record {
          sets_room = omega (arith, w.sets_room, length-set sets (s n) (get_or sets (s n) 0 + x n));
          limits_room = omega (arith, w.limits_room, length-set limits (place_of (s n) (l n)) (get_or limits (place_of (s n) (l n)) 0 + y n));
          by_set = tallied_more _ _ n sets w.by_set (omega (arith, w.sets_room));
          by_limit = tallied_more _ _ n limits w.by_limit (omega (arith, w.limits_room));
        }

    module _ (a b : ℕ) (low : (i : ℕ) → i < n → (x i ≤ a) × (y i ≤ b)) where
      pub sets_low : (j : ℕ) → j < Sizes.sets → get_or sets j 0 ≤ a * n
      sets_low j h = tallied_low _ _ n sets w.by_set a (λ i q. (low i q).0) j (omega (arith, w.sets_room))

      pub limits_low : (j : ℕ) → j < Sizes.sets_by_limits → get_or limits j 0 ≤ b * n
      limits_low j h = tallied_low _ _ n limits w.by_limit b (λ i q. (low i q).1) j (omega (arith, w.limits_room))

    -- so few so small amounts do not wrap
    pub grouped_open :
        s n < Sizes.sets → l n < Sizes.limits → n < Sizes.nodes → ((i : ℕ) → i < n + 1 → (x i ≤ largest_bound) × (y i ≤ largest_bound)) → Open sets limits (s n) (l n) (x n) (y n)
    grouped_open hs hl hn low =
        let k : (i : ℕ) → i < n → (x i ≤ largest_bound) × (y i ≤ largest_bound) = λ i q. low i (omega arith) in
        let h : (x n ≤ largest_bound) × (y n ≤ largest_bound) = low n (omega arith) in
        record {
          set = hs;
          limit = hl;
          sets_room = w.sets_room;
          limits_room = w.limits_room;
          set_fits = omega (arith, sets_low _ _ k (s n) hs);
          limit_fits = omega (arith, limits_low _ _ k (place_of (s n) (l n)) (omega arith));
        }
