-- Rows of what walks gather are sound evidence: 9 where no walk from b arrives, 8 where as many as the limit are gathered, else the set.
use Prim.Native.Nat.{ℕ, ◌≤◌, ◌<◌}
use native.Mathlib.Omega.{arith}
use native.Mathlib.Decide.{dec_lt}
use mathlib.Core.Path.{◌≡◌, refl}
use mathlib.Core.Logic.{◌≢◌}
use mathlib.Core.Bool.{true}
use mathlib.Core.List.{List, Memᴰ}
use lib.ListN.{length, get_or, get_or-eq_default}
use Rattle.paper.specs.Machines.{none}
use Rattle.paper.specs.Cases.{Row, Fact, Case, inside, scope_of}
use Rattle.paper.specs.Demands.{Rising, EdgeInside, Other, Gathered, FewGathered}
use Rattle.paper.proofs.RowLaws.{held_set, held_other}
use Rattle.paper.proofs.Meaning.{Holds, SoundRow, Carried, EdgeRule}
use Rattle.theory.proofs.Blocks.{at_mem, mem_at, rising_at}
use Rattle.theory.proofs.Decided.{Reached, reached?, reached_first, reached_on, gathered, gathered_rising, gathered_iff, gathered_on, gathered_new, gathered_most, few_gathered}

-- a set as a row, and a row without blocks
abbrev set_row : List ℕ → Row
set_row l = record { number = length l; slot = λ k. get_or l k none }

abbrev pub plain_row : ℕ → Row
plain_row n = record { number = n; slot = λ k. none }

module _ (e : Case) (t : Fact) where
  set_sound : (l : List ℕ) → t.limit ≤ 8 → length l < t.limit → Rising l → ((c : ℕ) → Memᴰ c l → Other e t c) → SoundRow e t (set_row l)
  set_sound l few h r o =
      let z = held_set (set_row l) (omega arith) in
      record {
        number = omega arith;
        few = λ s. h;
        others = λ k i. o _ (at_mem l k (omega arith));
        rising = λ k i. rising_at l r k (omega arith);
        free = λ k i j. get_or-eq_default l none (omega arith);
      }

  pub plain_sound : (n : ℕ) → 8 ≤ n → n ≤ 9 → SoundRow e t (plain_row n)
  plain_sound n l h =
      let z = held_other (plain_row n) l in
      record {
        number = h;
        few = λ s. absurd (omega arith);
        others = λ k i. absurd (omega arith);
        rising = λ k i. absurd (omega arith);
        free = λ k i j. refl;
      }

  module _ (small : (v : ℕ) → e.block v < 65536) (low : t.limit ≤ 8) where
    abbrev found : ℕ → List ℕ
    found v = gathered e t small v

    abbrev Few : ℕ → Type 0
    Few v = length (found v) < t.limit

    choose : (v : ℕ) → Dec (Reached e t v) → Dec (Few v) → Row
    choose v (yes h) (yes l) = set_row (found v)
    choose v (yes h) (no l) = plain_row 8
    choose v (no n) d = plain_row 9

    pub row : ℕ → Row
    row v = choose v (reached? e t v) (dec_lt _ _)

    pub row_sound : (v : ℕ) → SoundRow e t (row v)
    unfolding row choose
    row_sound v = sound v _ _
      where
        sound : (v : ℕ) (d : Dec (Reached e t v)) (f : Dec (Few v)) → SoundRow e t (choose v d f)
        sound v (yes h) (yes l) = set_sound (found v) low l (gathered_rising e t small v) (λ c m. ((gathered_iff e t small v c).0 m).other)
        sound v (yes h) (no l) = plain_sound 8 (omega arith) (omega arith)
        sound v (no n) f = plain_sound 9 (omega arith) (omega arith)

    small_slot : (v : ℕ) (d : Dec (Reached e t v)) (f : Dec (Few v)) (k : ℕ) → (choose v d f).slot k < 65536
    unfolding choose
    small_slot v (yes h) (yes l) k =
        elim (dec_lt k (length (found v))) [
          | yes i ↦ let g = (gathered_iff e t small v _).0 (at_mem (found v) k i) in omega (arith, small g.node, g.fetches)
          | no n ↦ omega (arith, get_or-eq_default (found v) none {n = k} (omega arith))
        ]
    small_slot v (yes h) (no l) k = omega arith
    small_slot v (no n) f k = omega arith

    pub row_small : (v k : ℕ) → (row v).slot k < 65536
    unfolding row
    row_small v k = small_slot v _ _ k

    pub row_few : FewGathered e t → (v : ℕ) → inside (scope_of e t) v ≡ true → e.block v ≡ t.block → (row v).number ≢ 8
    unfolding row choose
    row_few b v i p = few v _ _ (few_gathered e t small b v i p)
      where
        few : (v : ℕ) (d : Dec (Reached e t v)) (f : Dec (Few v)) → Few v → (choose v d f).number ≢ 8
        few v (yes h) (yes l) r p = omega arith
        few v (yes h) (no l) r p = l r
        few v (no n) f r p = omega arith

    module _ (u v : ℕ) (s : EdgeInside e t u v) where
      abbrev x : ℕ
      x = e.block u

      kept : x ≢ t.block → (c : ℕ) → Memᴰ c (found u) → Gathered e t v c
      kept o c m = gathered_on e t s o c ((gathered_iff e t small u c).0 m)

      pub row_rule : EdgeRule e t x (row u) (row v)
      unfolding row choose
      row_rule =
          record {
            after_block = λ p. after v _ _ (reached_first e t s p);
            other = λ o p q. carried _ _ _ _ o p q;
          }
        where
          after : (v : ℕ) (d : Dec (Reached e t v)) (f : Dec (Few v)) → Reached e t v → (choose v d f).number ≢ 9
          after v (yes h) (yes l) r p = omega arith
          after v (yes h) (no l) r p = omega arith
          after v (no n) f r p = n r

          holds : Few v → (c : ℕ) → Gathered e t v c → Holds (set_row (found v)) c
          holds l c g =
              let z = held_set (set_row (found v)) (omega arith) in
              let i = mem_at ((gathered_iff e t small v c).1 g) in
              (i.0, omega arith, i.2)

          carried : (d : Dec (Reached e t u)) (f : Dec (Few u)) (d' : Dec (Reached e t v)) (f' : Dec (Few v)) →
              x ≢ t.block → (choose u d f).number ≢ 9 → (choose v d' f').number ≢ 8 → Carried e t x (choose u d f) (choose v d' f')
          carried (no n) f d' f' o p q = absurd (p refl)
          carried (yes h) f (no n) f' o p q = absurd (n (reached_on e t s o h))
          carried (yes h) f (yes h') (no l') o p q = absurd (q refl)
          carried (yes h) (no l) (yes h') (yes l') o p q =
              absurd (omega (arith, gathered_most e t small v (found u) (gathered_rising e t small u) (kept o)))
          carried (yes h) (yes l) (yes h') (yes l') o p q =
              let z = held_set (set_row (found u)) (omega arith) in
              record {
                set_before = λ w. omega arith;
                set_after = omega arith;
                keeps = λ k i. holds l' _ (kept o _ (at_mem (found u) k (omega arith)));
                adds = λ w. holds l' _ (gathered_new e t s w h);
              }
