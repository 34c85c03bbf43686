-- The laws of the loop that follows a chain, adds the counts of the range's nodes that fetch b and lowers their limits.
use Prim.Native.Nat.{ℕ, suc, ◌+◌, ◌-◌, ◌*◌, ◌%◌, ◌≤◌, ◌<◌, min}
use native.Mathlib.Omega.{arith}
use native.Mathlib.Decide.{ℕ_discrete, dec_lt}
use mathlib.Core.Path.{◌≡◌, refl, sym, ◌∙◌, ap, subst}
use mathlib.Core.Logic.{◌≢◌}
use mathlib.Core.Bool.{Bool, false, cond, ◌&&◌, and-false}
use mathlib.Core.List.{List}
use borrow.Author.Tests.{le-leb, lt-leb, ne_eqb}
use lib.Dec.{eqb, leb}
use lib.ListN.{length, get_or, set, length-set}
use lib.Seq.{get_or-set_same, get_or-set_other}
use Rattle.paper.specs.Lists.{sum_to}
use Rattle.paper.specs.declared.Loop.{Loop}
use Rattle.paper.specs.Cases.{Case, inside}
use Rattle.paper.specs.Graphs.{count}
use Rattle.paper.specs.Bounds.{fetches_in, counts}
use Rattle.paper.specs.Ceilings.{most_count}
use Rattle.formulas.specs.Largest.{largest_visits}
use Rattle.charge.specs.Chained.{bucket, last_in, Limits, Lowered}
use Rattle.charge.specs.Sizes as Sizes
use Rattle.charge.proofs.Buckets.{chain_low, chain_is, chain_none}
use Rattle.charge.proofs.SmallSums.{sum_none, sum_rest}

module _ (e : Case) (s : Loop) (b : ℕ) where
  -- what is not of b's bucket does not fetch b
  fetches_other : (v : ℕ) → bucket e v ≢ b % Sizes.buckets → fetches_in e s b v ≡ false
  unfolding inside
  fetches_other v h = rw (ne_eqb (e.block v) b (λ q. h (ap (λ x. x % Sizes.buckets) q))) (and-false (leb s.first v && leb v s.last))

  fetches_before : (v : ℕ) → v < s.first → fetches_in e s b v ≡ false
  unfolding inside
  fetches_before v h = rw (lt-leb s.first v h) refl

  fetches_from : (v : ℕ) → s.first ≤ v → fetches_in e s b v ≡ (leb v s.last && eqb (e.block v) b)
  unfolding inside
  fetches_from v h = rw (le-leb s.first v h) refl

  abbrev visit : ℕ → ℕ
  visit v = cond (fetches_in e s b v) (count e v) 0

  module _ (l : ℕ) (old : List ℕ) where
    abbrev low : ℕ → ℕ
    low v = min (get_or old v 0) (cond (fetches_in e s b v) l Sizes.no_limit)

    -- a loop that follows the chain has done the nodes from c on
    pub record Following (new : List ℕ) (x c : ℕ) : Type 0 where
      pub room : length new ≡ length old
      pub within : c ≤ e.nodes
      pub in_bucket : (v : ℕ) → c ≡ suc v → bucket e v ≡ b % Sizes.buckets
      pub sum : x + sum_to visit c ≡ counts e (fetches_in e s b)
      pub small : x + most_count * c ≤ most_count * e.nodes
      pub done : (u : ℕ) → c ≤ u → u < e.nodes → get_or new u 0 ≡ low u
      pub left : (u : ℕ) → u < c → get_or new u 0 ≡ get_or old u 0

    module _ (limits : Limits e old) where
      -- from the node n on nothing is left to do but what lies before the last of the bucket below n
      skip : (n u : ℕ) → n ≤ e.nodes → last_in e (b % Sizes.buckets) n ≤ u → u < n → get_or old u 0 ≡ low u
      skip n u h k l = rw (fetches_other u (chain_none e (b % Sizes.buckets) n u k l)) (omega (arith, limits.low u (omega arith)))

      skip_sum : (n : ℕ) → sum_to visit n ≡ sum_to visit (last_in e (b % Sizes.buckets) n)
      skip_sum n = sum_rest visit (last_in e (b % Sizes.buckets) n) n (chain_low e (b % Sizes.buckets) n) (λ j k l. rw (fetches_other j (chain_none e (b % Sizes.buckets) n j k l)) refl)

      pub following_start : (c : ℕ) → c ≡ last_in e (b % Sizes.buckets) e.nodes → Following old 0 c
      unfolding counts
      following_start c q =
          rw q (record {
            room = refl;
            within = chain_low e (b % Sizes.buckets) e.nodes;
            in_bucket = λ v k. chain_is e (b % Sizes.buckets) e.nodes v k;
            sum = omega (arith, skip_sum e.nodes);
            small = omega (arith, chain_low e (b % Sizes.buckets) e.nodes);
            done = λ u k n. skip e.nodes u (omega arith) k n;
            left = λ u k. refl;
          })

      pub following_more :
          (new : List ℕ) (x c n v y z : ℕ) (hit : Bool) → Following new x c → s.first < c → v ≡ c - 1 → n ≡ last_in e (bucket e v) v → v < length new
          → hit ≡ (leb v s.last && eqb (e.block v) b) → y ≡ cond hit (count e v) 0 → y ≤ most_count → z ≡ min (get_or new v 0) (cond hit l Sizes.no_limit)
          → Following (set new v z) (x + y) n
      unfolding sum_to
      following_more new x c n v y z hit w h ev en hv eh ey ly ez =
          let k : c ≡ suc v = omega arith in
          let q : bucket e v ≡ b % Sizes.buckets = w.in_bucket v k in
          let g : n ≡ last_in e (b % Sizes.buckets) v = rw (← q) en in
          let m : last_in e (b % Sizes.buckets) v ≤ v = chain_low e (b % Sizes.buckets) v in
          let f : fetches_in e s b v ≡ hit = fetches_from v (omega arith) ∙ sym eh in
          let r : x + (sum_to visit v + visit v) ≡ counts e (fetches_in e s b) = subst (λ i. x + sum_to visit i ≡ counts e (fetches_in e s b)) k w.sum in
          let d : visit v ≡ y = rw f (sym ey) in
          record {
            room = length-set new v z ∙ w.room;
            within = omega (arith, w.within, g, m);
            in_bucket = λ u r. chain_is e (b % Sizes.buckets) v u (sym g ∙ r);
            sum = rw g (omega (arith, r, d, skip_sum v));
            small = omega (arith, w.small, g, m);
            done =
                λ u r trailer.
                elim (ℕ_discrete u v) [
                  | yes i ↦ rw (i, f) (get_or-set_same new v z 0 hv ∙ ez ∙ rw (w.left v (omega arith)) refl)
                  | no i ↦
                      get_or-set_other new v u z 0 i
                      ∙ elim (dec_lt u v) [
                        | yes j ↦ w.left u (omega arith) ∙ skip v u (omega (arith, w.within)) (omega (arith, g)) j
                        | no j ↦ w.done u (omega arith) trailer
                      ]
                ];
            left = λ u r. get_or-set_other new v u z 0 (omega (arith, g, m)) ∙ w.left u (omega (arith, g, m));
          }

      pub following_end :
          (new : List ℕ) (x c : ℕ) → e.nodes ≤ Sizes.nodes → Following new x c → c ≤ s.first
          → (x ≡ counts e (fetches_in e s b)) × ((x ≤ largest_visits) × Lowered e (fetches_in e s b) l old new)
      following_end new x c n w h = (
        omega (arith, w.sum, sum_none visit c (λ j k. rw (fetches_before j (omega arith)) refl)),
        (
          omega (arith, w.small),
          record {
            room = w.room;
            is =
                λ v k.
                elim (dec_lt v c) [
                  | yes j ↦ w.left v j ∙ rw (fetches_before v (omega arith)) (omega (arith, limits.low v k))
                  | no j ↦ w.done v (omega arith) k
                ];
          },
        ),
      )
