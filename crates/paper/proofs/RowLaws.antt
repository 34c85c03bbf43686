-- What the tests of the rules 12, 14, 16 to 18, 24 and 25 say, both ways.
use Prim.Native.Nat.{ℕ, zero, suc, ◌-◌, ◌%◌, ◌≤◌, ◌<◌}
use native.Mathlib.Omega.{arith}
use native.Mathlib.Decide.{dec_lt}
use mathlib.Core.Path.{◌≡◌, refl, ◌∙◌, ap}
use mathlib.Core.Logic.{◌≢◌, ◌⊎◌, inl, inr, ⊎_elim, ◌↔◌}
use mathlib.Core.Bool.{Bool, true, false, cond}
use borrow.Author.Tests.{lt-ltb, le-ltb, eq-eqb, ne_eqb}
use lib.Dec.{eqb}
use Rattle.paper.specs.Machines.{none}
use Rattle.paper.specs.Cases.{Row, Fact, Case, same_set}
use Rattle.paper.specs.Facts.{held, holds, bad_slot, bad_row, lacks, after_b, after_many, after_set, breaks, broken_by}
use Rattle.paper.proofs.Says.{Says, says_lt, says_le, says_eq, says_not, says_and, says_or, says_some, says_cond, says_false, says_true, says_is, says_stable}
use Rattle.paper.proofs.Meaning.{Holds, SoundRow, Carried, EdgeRule}

-- how many blocks a row holds
pub held_set : (r : Row) → r.number < 8 → held r ≡ r.number
unfolding held
held_set r h = rw (lt-ltb _ _ h) refl

pub held_other : (r : Row) → 8 ≤ r.number → held r ≡ 0
unfolding held
held_other r h = rw (le-ltb _ _ h) refl

pub held_low : (r : Row) → held r < 8
held_low r = elim (dec_lt r.number 8) [ yes h ↦ omega (arith, held_set r h) | no n ↦ omega (arith, held_other r (omega arith)) ]

pub holds_says : (r : Row) (x : ℕ) → Says (Holds r x) (holds r x)
unfolding holds
holds_says r x = says_some (λ k. says_eq (r.slot k) x) (held r)

module _ (e : Case) where
  pub same_set_says : (x b : ℕ) → Says (x % e.sets ≡ b % e.sets) (same_set e x b)
  unfolding same_set
  same_set_says x b = says_eq _ _

module _ (e : Case) (t : Fact) where
  abbrev pub Same : ℕ → Type 0
  Same x = x % e.sets ≡ t.block % e.sets

  -- a slot that should hold a block, or be free, and does not
  abbrev BadSlot : Row → ℕ → Type 0
  BadSlot r k =
      ((k < held r)
      × ((r.slot k ≡ none) ⊎ ((r.slot k ≡ t.block) ⊎ (¬ Same (r.slot k) ⊎ ((0 < k) × (r.slot k ≤ r.slot (k - 1)))))))
      ⊎ (¬ (k < held r) × ¬ (r.slot k ≡ none))

  slot_says : (r : Row) (k : ℕ) → Says (BadSlot r k) (bad_slot e t r k)
  unfolding bad_slot
  slot_says r k =
      says_cond (says_lt _ _)
      (says_or (says_eq _ _) (says_or (says_eq _ _) (says_or (says_not (same_set_says e _ _)) (says_and (says_lt _ _) (says_le _ _)))))
      (says_not (says_eq _ _))

  abbrev BadRow : Row → Type 0
  BadRow r = (9 < r.number) ⊎ (((r.number < 8) × (t.limit ≤ r.number)) ⊎ ((k : ℕ) × (k < 7) × BadSlot r k))

  row_says : (r : Row) → Says (BadRow r) (bad_row e t r)
  unfolding bad_row
  row_says r = says_or (says_lt _ _) (says_or (says_and (says_lt _ _) (says_le _ _)) (says_some (slot_says r) 7))

  sound_row : (r : Row) → ¬ BadRow r → SoundRow e t r
  sound_row r n =
      record {
        number = let m : ¬ (9 < r.number) = λ p. n (inl p) in omega arith;
        few = λ s. let m : ¬ (t.limit ≤ r.number) = λ p. n (inr (inl (s, p))) in omega arith;
        others = λ k h. (
          λ p. at k h (inr (inl p)),
          λ p. at k h (inl p),
          says_stable (same_set_says e _ _) (λ p. at k h (inr (inr (inl p)))),
        );
        rising = λ k h.
            let z : suc k - 1 ≡ k = omega arith in
            let m : ¬ (r.slot (suc k) ≤ r.slot k) = λ p. at (suc k) h (inr (inr (inr (omega arith, rw z p)))) in
            omega arith;
        free = λ k h l. says_stable (says_eq _ _) (λ p. n (inr (inr (k, l, inr (λ q. omega arith, p)))));
      }
    where
      at : (k : ℕ) → k < held r → ¬ ((r.slot k ≡ none) ⊎ ((r.slot k ≡ t.block) ⊎ (¬ Same (r.slot k) ⊎ ((0 < k) × (r.slot k ≤ r.slot (k - 1))))))
      at k h p = n (inr (inr (k, omega (arith, held_low r), inl (h, p))))

  row_sound : (r : Row) → SoundRow e t r → ¬ BadRow r
  row_sound r s b = ⊎_elim (λ p. omega (arith, s.number)) (λ q. ⊎_elim (λ p. omega (arith, s.few p.0)) (λ p. slots p.0 p.1 p.2) q) b
    where
      block : (k : ℕ) → k < held r → ¬ ((r.slot k ≡ none) ⊎ ((r.slot k ≡ t.block) ⊎ (¬ Same (r.slot k) ⊎ ((0 < k) × (r.slot k ≤ r.slot (k - 1))))))
      block k h p =
          let o = s.others k h in
          ⊎_elim o.1 (λ q. ⊎_elim o.0 (λ q. ⊎_elim (λ m. m o.2) (λ m. rises k h m.0 m.1) q) q) p
        where
          rises : (k : ℕ) → k < held r → 0 < k → ¬ (r.slot k ≤ r.slot (k - 1))
          rises zero h l p = omega arith
          rises (suc k) h l p = let z : suc k - 1 ≡ k = omega arith in omega (arith, s.rising k h, rw z at p)

      slots : (k : ℕ) → k < 7 → ¬ BadSlot r k
      slots k l p = ⊎_elim (λ q. block k q.0 q.1) (λ q. q.1 (s.free k (omega (arith, q.0)) l)) p

  -- "Sound row"
  pub row_law : (r : Row) → (bad_row e t r ≡ false) ↔ SoundRow e t r
  row_law r = (λ h. sound_row r ((says_false (row_says r)).0 h), λ s. (says_false (row_says r)).1 (row_sound r s))

  -- row s lacks a block of row r, or the block x
  abbrev pub Lacks : ℕ → Row → Row → Type 0
  Lacks x r s = ((k : ℕ) × (k < held r) × ¬ Holds s (r.slot k)) ⊎ (¬ (x ≡ none) × (Same x × ¬ Holds s x))

  lacks_says : (x : ℕ) (r s : Row) → Says (Lacks x r s) (lacks e t x r s)
  unfolding lacks
  lacks_says x r s =
      says_or (says_some (λ k. says_not (holds_says s (r.slot k))) (held r))
      (says_and (says_not (says_eq _ _)) (says_and (same_set_says e _ _) (says_not (holds_says s x))))

  -- 24, 25 and 17 of an edge
  abbrev AfterB : ℕ → Row → Type 0
  AfterB x s = (x ≡ t.block) × (s.number ≡ 9)

  abbrev AfterMany : ℕ → Row → Row → Type 0
  AfterMany x r s = ¬ (x ≡ t.block) × ((r.number ≡ 8) × ¬ (s.number ≡ 8))

  abbrev AfterSet : ℕ → Row → Row → Type 0
  AfterSet x r s = (¬ (x ≡ t.block) × (¬ (r.number ≡ 9) × ¬ (r.number ≡ 8))) × (¬ (s.number ≡ 8) × ((8 ≤ s.number) ⊎ Lacks x r s))

  pub after_b_says : (x : ℕ) (s : Row) → Says (AfterB x s) (after_b e t x s)
  unfolding after_b
  after_b_says x s = says_and (says_eq _ _) (says_eq _ _)

  pub after_many_says : (x : ℕ) (r s : Row) → Says (AfterMany x r s) (after_many e t x r s)
  unfolding after_many
  after_many_says x r s = says_and (says_not (says_eq _ _)) (says_and (says_eq _ _) (says_not (says_eq _ _)))

  pub after_set_says : (x : ℕ) (r s : Row) → Says (AfterSet x r s) (after_set e t x r s)
  unfolding after_set
  after_set_says x r s =
      says_and (says_and (says_not (says_eq _ _)) (says_and (says_not (says_eq _ _)) (says_not (says_eq _ _))))
      (says_and (says_not (says_eq _ _)) (says_or (says_le _ _) (lacks_says x r s)))

  abbrev pub Breaks : ℕ → Row → Row → Type 0
  Breaks x r s = AfterB x s ⊎ (AfterMany x r s ⊎ AfterSet x r s)

  pub breaks_says : (x : ℕ) (r s : Row) → Says (Breaks x r s) (breaks e t x r s)
  unfolding breaks
  breaks_says x r s = says_or (after_b_says x s) (says_or (after_many_says x r s) (after_set_says x r s))

  module _ (x : ℕ) (r s : Row) where
    keeps_rule : ¬ Breaks x r s → EdgeRule e t x r s
    keeps_rule n =
        record {
          after_block = λ p q. n (inl (p, q));
          other = λ p q m. carried p q m (λ z. n (inr (inl (p, (z, m)))));
        }
      where
        carried : x ≢ t.block → r.number ≢ 9 → s.number ≢ 8 → r.number ≢ 8 → Carried e t x r s
        carried p q m z =
            let n' : ¬ ((8 ≤ s.number) ⊎ Lacks x r s) = λ w. n (inr (inr ((p, (q, z)), (m, w)))) in
            record {
              set_before = z;
              set_after = let l : ¬ (8 ≤ s.number) = λ w. n' (inl w) in omega arith;
              keeps = λ k h. says_stable (holds_says s (r.slot k)) (λ w. n' (inr (inl (k, h, w))));
              adds = λ o. says_stable (holds_says s x) (λ w. n' (inr (inr (o.1, (o.2, w)))));
            }

    rule_keeps : EdgeRule e t x r s → ¬ Breaks x r s
    rule_keeps c b =
        ⊎_elim (λ p. c.after_block p.0 p.1) (λ p. ⊎_elim many (λ q. set q.0.0 q.0.1.0 q.1.0 q.1.1) p) b
      where
        many : ¬ AfterMany x r s
        many q = let n : r.number ≢ 9 = omega arith in (c.other q.0 n q.1.1).set_before q.1.0

        set : x ≢ t.block → r.number ≢ 9 → s.number ≢ 8 → ¬ ((8 ≤ s.number) ⊎ Lacks x r s)
        set p q m v =
            let k = c.other p q m in
            ⊎_elim (λ l. omega (arith, k.set_after)) (λ l. ⊎_elim (λ y. y.2 (k.keeps y.0 y.1)) (λ y. y.1.1 (k.adds (p, y.0, y.1.0))) l) v

    -- the edge rule
    pub edge_law : (breaks e t x r s ≡ false) ↔ EdgeRule e t x r s
    edge_law = (λ h. keeps_rule ((says_false (breaks_says x r s)).0 h), λ c. (says_false (breaks_says x r s)).1 (rule_keeps c))

    -- "an edge can break only one of the three"
    pub only_b : after_b e t x s ≡ true → (after_many e t x r s ≡ false) × (after_set e t x r s ≡ false)
    only_b h =
        let w = says_true (after_b_says x s) h in (
          (says_false (after_many_says x r s)).1 (λ p. p.0 w.0),
          (says_false (after_set_says x r s)).1 (λ p. p.0.0 w.0),
        )

    pub only_many : after_many e t x r s ≡ true → (after_b e t x s ≡ false) × (after_set e t x r s ≡ false)
    only_many h =
        let w = says_true (after_many_says x r s) h in (
          (says_false (after_b_says x s)).1 (λ p. w.0 p.0),
          (says_false (after_set_says x r s)).1 (λ p. p.0.1.1 w.1.0),
        )

    pub only_set : after_set e t x r s ≡ true → (after_b e t x s ≡ false) × (after_many e t x r s ≡ false)
    only_set h =
        let w = says_true (after_set_says x r s) h in (
          (says_false (after_b_says x s)).1 (λ p. w.0.0 p.0),
          (says_false (after_many_says x r s)).1 (λ p. w.0.1.1 p.1.0),
        )

    -- its number is that of the one it breaks
    pub by_b : after_b e t x s ≡ true → broken_by e t x r s ≡ 24
    unfolding broken_by
    by_b h = ap (λ (b : Bool). cond b 24 (cond (after_many e t x r s) 25 17)) h

    pub by_many : after_many e t x r s ≡ true → broken_by e t x r s ≡ 25
    unfolding broken_by
    by_many h = rw ((only_many h).0, h)

    pub by_set : after_set e t x r s ≡ true → broken_by e t x r s ≡ 17
    unfolding broken_by
    by_set h = rw ((only_set h).0, (only_set h).1)

    -- of an edge that breaks one of the three, u's block and row tell which
    pub broken_by_lem : breaks e t x r s ≡ true → broken_by e t x r s ≡ cond (eqb x t.block) 24 (cond (eqb r.number 8) 25 17)
    broken_by_lem h =
        ⊎_elim
        (λ p. by_b (says_is (after_b_says x s) p) ∙ rw (eq-eqb x t.block p.0) refl)
        (λ q.
        ⊎_elim
        (λ p. by_many (says_is (after_many_says x r s) p) ∙ rw (ne_eqb x t.block p.0, eq-eqb r.number 8 p.1.0) refl)
        (λ p. by_set (says_is (after_set_says x r s) p) ∙ rw (ne_eqb x t.block p.0.0, ne_eqb r.number 8 p.0.1.1) refl)
        q)
        (says_true (breaks_says x r s) h)
