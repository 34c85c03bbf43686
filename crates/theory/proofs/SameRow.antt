-- Rows with the same number and the same seven slots keep the same rules, whatever rows the fact itself has.
use Prim.Native.Nat.{ℕ, suc, ◌<◌}
use native.Mathlib.Omega.{arith}
use mathlib.Core.Path.{◌≡◌, sym, ◌∙◌, ap}
use mathlib.Core.Bool.{cond}
use lib.Dec.{ltb}
use Rattle.paper.specs.Cases.{Row, Fact, Case}
use Rattle.paper.specs.Facts.{held}
use Rattle.paper.proofs.RowLaws.{held_low}
use Rattle.paper.proofs.Meaning.{Holds, SoundRow, Carried, EdgeRule}

pub record Same (r s : Row) : Type 0 where
  pub number : s.number ≡ r.number
  pub slot : (k : ℕ) → k < 7 → s.slot k ≡ r.slot k

pub same_back : (r s : Row) → Same r s → Same s r
same_back r s w = record { number = sym w.number; slot = λ k h. sym (w.slot k h) }

pub same_trans : (r s m : Row) → Same r s → Same s m → Same r m
same_trans r s m a b = record { number = b.number ∙ a.number; slot = λ k h. b.slot k h ∙ a.slot k h }

pub same_held : (r s : Row) → Same r s → held s ≡ held r
unfolding held
same_held r s w = ap (λ (n : ℕ). cond (ltb n 8) n 0) w.number

pub same_holds : (r s : Row) → Same r s → (x : ℕ) → Holds r x → Holds s x
same_holds r s w x h = (h.0, omega (arith, same_held r s w, h.1), w.slot h.0 (omega (arith, held_low r, h.1)) ∙ h.2)

module _ (e : Case) (t : Fact) (rows : ℕ → Row) where
  -- the fact with other rows
  abbrev pub rewritten : Fact
  rewritten = record { scope = t.scope; block = t.block; limit = t.limit; row = rows }

  pub same_sound : (r s : Row) → Same r s → SoundRow e t r → SoundRow e rewritten s
  same_sound r s w z =
      let h = same_held r s w in
      let l = held_low r in
      record {
        number = omega (arith, w.number, z.number);
        few = λ i. omega (arith, w.number, z.few (omega (arith, w.number)));
        others = λ k i. rw (w.slot k (omega arith)) (z.others k (omega arith));
        rising = λ k i. omega (arith, w.slot k (omega arith), w.slot (suc k) (omega arith), z.rising k (omega arith));
        free = λ k i j. w.slot k j ∙ z.free k (omega arith) j;
      }

  pub same_rule : (x : ℕ) (r r' s s' : Row) → Same r r' → Same s s' → EdgeRule e t x r s → EdgeRule e rewritten x r' s'
  same_rule x r r' s s' a b c =
      record {
        after_block = λ p q. c.after_block p (sym b.number ∙ q);
        other = λ o p q. carried (c.other o (λ h. p (a.number ∙ h)) (λ h. q (b.number ∙ h)));
      }
    where
      carried : Carried e t x r s → Carried e rewritten x r' s'
      carried k =
          record {
            set_before = λ h. k.set_before (sym a.number ∙ h);
            set_after = omega (arith, b.number, k.set_after);
            keeps = λ i h.
                let l : i < held r = omega (arith, same_held r r' a) in
                rw (a.slot i (omega (arith, held_low r))) (same_holds s s' b _ (k.keeps i l));
            adds = λ o. same_holds s s' b x (k.adds o);
          }
