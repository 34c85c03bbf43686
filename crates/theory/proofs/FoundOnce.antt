-- What is found is found once: of two outcomes of `find` for one input, what they tell and what they leave coincide.
use Rattle.std.specs.Prelude.{Ok, Err}
use Prim.Native.Nat.{ℕ, suc, ◌+◌, ◌-◌, ◌*◌, ◌/◌, ◌%◌, ◌≤◌, ◌<◌}
use native.Mathlib.Omega.{arith}
use native.Mathlib.Decide.{ℕ_discrete, dec_lt}
use mathlib.Core.Path.{◌≡◌, refl, sym, ◌∙◌, ap, subst}
use mathlib.Core.Logic.{◌≢◌, ◌↔◌}
use mathlib.Core.Bool.{true}
use mathlib.Core.List.{List, [], ◌∷◌, ◌++◌}
use lib.ListN.{length, get_or, drop}
use lib.Seq.{ext_get_or}
use Rattle.paper.specs.declared.Refusal.{Refusal}
use Rattle.paper.specs.declared.Loop.{Loop}
use Rattle.paper.specs.Answers.{Verdict, refuse, Told, tells_why, tells, value_or}
use Rattle.paper.specs.Cases.{Row, Fact, Case, inside, size, scope_of}
use Rattle.paper.specs.Facts.{held}
use Rattle.paper.specs.Files.{read_case}
use Rattle.paper.specs.OneFact.{words}
use Rattle.paper.specs.Writing.{row_from}
use Rattle.paper.specs.Finding.{sought, with_limit, RowSays, NoneBelow, Finds, Judged, FindOutcome, refused, nothing, found}
use Rattle.paper.proofs.Says.{says_true, says_is}
use Rattle.paper.proofs.GraphLaws.{inside_says}
use Rattle.paper.proofs.TableLaws.{length_table, get_d_table}
use Rattle.paper.proofs.RuleLaws.{never}
use Rattle.paper.proofs.RowLaws.{held_set, held_other, holds_says, row_law}
use Rattle.paper.proofs.Meaning.{Holds, SoundRow}
use Rattle.theory.proofs.Sorted.{rising_same}
use Rattle.theory.proofs.Blocks.{blocks, blocks_rising, holds_mem, mem_holds}
use Rattle.theory.proofs.SameRow.{Same}

-- Two rows that say what is gathered at v, for the limit l, are the same.
module _ (e : Case) (t : Fact) (l v : ℕ) (r s : Row) (a : RowSays e t l v r) (b : RowSays e t l v s) where
  sound_r : SoundRow e (with_limit t l) r
  sound_r = (row_law e (with_limit t l) r).0 a.sound

  sound_s : SoundRow e (with_limit t l) s
  sound_s = (row_law e (with_limit t l) s).0 b.sound

  -- rows without blocks
  bare : s.number ≡ r.number → 8 ≤ r.number → Same r s
  bare p h =
      record {
        number = p;
        slot = λ k l. sound_s.free k (omega (arith, held_other s (omega arith))) l ∙ sym (sound_r.free k (omega (arith, held_other r h)) l);
      }

  -- sets have the same blocks
  module _ (h : r.number < 8) (g : s.number < 8) where
    to : (c : ℕ) → Holds r c → Holds s c
    to c m = says_true (holds_says s c) ((b.set g c).1 ((a.set h c).0 (says_is (holds_says r c) m)))

    from : (c : ℕ) → Holds s c → Holds r c
    from c m = says_true (holds_says r c) ((a.set h c).1 ((b.set g c).0 (says_is (holds_says s c) m)))

    same_blocks : blocks r ≡ blocks s
    same_blocks =
        rising_same (blocks r) (blocks s) (blocks_rising r sound_r.rising) (blocks_rising s sound_s.rising) (λ c m. holds_mem r c (from c (mem_holds s c m)))
        (λ c m. holds_mem s c (to c (mem_holds r c m)))

    same_number : held s ≡ held r
    same_number = omega (arith, ap length same_blocks, length_table r.slot (held r), length_table s.slot (held s))

    slot_in : (k : ℕ) → k < held r → s.slot k ≡ r.slot k
    slot_in k l =
        sym (get_d_table s.slot (held s) k 0 (omega (arith, same_number))) ∙ ap (λ (m : List ℕ). get_or m k 0) (sym same_blocks) ∙ get_d_table r.slot (held r) k 0 l

    sets : Same r s
    sets =
        record {
          number = omega (arith, same_number, held_set r h, held_set s g);
          slot = λ k l.
              elim (dec_lt k (held r)) [
                | yes m ↦ slot_in k m
                | no n ↦ sound_s.free k (omega (arith, same_number)) l ∙ sym (sound_r.free k (omega arith) l)
              ];
        }

  row_once : Same r s
  row_once =
      elim (ℕ_discrete r.number 9) [
        | yes p ↦ bare (b.nine.1 (a.nine.0 p) ∙ sym p) (omega arith)
        | no p ↦
            elim (ℕ_discrete r.number 8) [
              | yes q ↦ bare (b.many.1 (a.many.0 q) ∙ sym q) (omega arith)
              | no q ↦
                  sets (omega (arith, sound_r.number))
                  (let n : s.number ≢ 9 = λ z. p (a.nine.1 (b.nine.0 z)) in
                  let m : s.number ≢ 8 = λ z. q (a.many.1 (b.many.0 z)) in
                  omega (arith, sound_s.number))
            ]
      ]

module _ (f : List ℕ) (t : Fact) where
  abbrev scope : Loop
  scope = scope_of (read_case f) t

  -- a smaller limit has no evidence, so neither is smaller
  limit_once : (l l' : ℕ) (rows rows' : List ℕ) → Finds f t l rows → Finds f t l' rows' → l ≡ l'
  limit_once l l' rows rows' a b =
      elim (dec_lt l l') [
        | yes h ↦ absurd (b.least l a.low h (words rows) a.takes)
        | no n ↦ elim (dec_lt l' l) [ yes h ↦ absurd (a.least l' b.low h (words rows') b.takes) | no m ↦ omega arith ]
      ]

  rows_once : (l : ℕ) (rows rows' : List ℕ) → Finds f t l rows → Finds f t l rows' → rows ≡ rows'
  rows_once l rows rows' a b = ext_get_or 0 rows rows' (a.whole ∙ sym b.whole) (λ i h. at i (i / 8) (i % 8) (omega arith) (omega (arith, a.whole)) (omega arith))
    where
      row : (j : ℕ) → j < size scope → Same (row_from rows j) (row_from rows' j)
      row j h =
          let i : inside scope (scope.first + j) ≡ true = says_is (inside_says scope (scope.first + j)) (omega arith, omega arith) in
          let z : scope.first + j - scope.first ≡ j = omega arith in
          subst (λ (k : ℕ). Same (row_from rows k) (row_from rows' k)) z (row_once (read_case f) t l (scope.first + j) _ _ (a.says _ i) (b.says _ i))

      at : (i j k : ℕ) → i ≡ 8 * j + k → j < size scope → k < 8 → get_or rows i 0 ≡ get_or rows' i 0
      at i j k p h l =
          elim (ℕ_discrete k 0) [
            | yes q ↦ let z : i ≡ 8 * j = omega arith in rw z (sym (row j h).number)
            | no q ↦ let z : i ≡ 8 * j + 1 + (k - 1) = omega arith in rw z (sym ((row j h).slot (k - 1) (omega arith)))
          ]

-- the refusal of a verdict
why : Verdict → Refusal
why (Ok tt) = refuse 0 0
why (Err r) = r

module _ (f : List ℕ) (scope block : ℕ) (lent : List ℕ) where
  same_found : (l l' : ℕ) (rows rows' : List ℕ) → l ≡ l' → rows ≡ rows' →
      (tells (l ∷ []) ≡ tells (l' ∷ [])) × (rows ++ drop (length rows) lent ≡ rows' ++ drop (length rows') lent)
  same_found l l' rows rows' p q = (ap (λ (m : ℕ). tells (m ∷ [])) p, ap (λ (m : List ℕ). m ++ drop (length m) lent) q)

  pub outcome_once : (told told' : Told) (after after' : List ℕ) → FindOutcome f scope block lent told after → FindOutcome f scope block lent told' after' →
      (told ≡ told') × (after ≡ after')
  unfolding why
  outcome_once told told' after after' (refused r a) (refused s b) = (ap (λ (v : Verdict). tells_why (why v)) (sym a ∙ b), refl)
  outcome_once told told' after after' (refused r a) (nothing b n) = never r (sym a ∙ b)
  outcome_once told told' after after' (refused r a) (found b l rows m) = never r (sym a ∙ b)
  outcome_once told told' after after' (nothing a n) (refused s b) = never s (sym b ∙ a)
  outcome_once told told' after after' (nothing a n) (nothing b m) = (refl, refl)
  outcome_once told told' after after' (nothing a n) (found b l rows m) = absurd (n l m.low (omega (arith, m.high)) (words rows) m.takes)
  outcome_once told told' after after' (found a l rows m) (refused s b) = never s (sym b ∙ a)
  outcome_once told told' after after' (found a l rows m) (nothing b n) = absurd (n l m.low (omega (arith, m.high)) (words rows) m.takes)
  outcome_once told told' after after' (found a l rows m) (found b l' rows' m') =
      let t = sought (read_case f) scope block in
      let p = limit_once f t l l' rows rows' m m' in
      same_found l l' rows rows' p (rows_once f t l rows rows' m (subst (λ (x : ℕ). Finds f t x rows') (sym p) m'))

  -- "It answers 'none' exactly when no limit up to k has acceptable evidence."
  pub none_exactly : (told : Told) (after : List ℕ) → FindOutcome f scope block lent told after → Judged f scope block lent (Ok tt) →
      (told ≡ tells []) ↔ NoneBelow f (sought (read_case f) scope block) (suc (read_case f).ways)
  none_exactly told after (refused r a) b = never r (sym a ∙ b)
  none_exactly told after (nothing a n) b = (λ p. n, λ m. refl)
  none_exactly told after (found a l rows m) b = (λ p. absurd (some_value p), λ n. absurd (n l m.low (omega (arith, m.high)) (words rows) m.takes))
    where
      some_value : tells (l ∷ []) ≡ tells [] → ⊥
      some_value p = omega (arith, ap (value_or (suc l)) p)
