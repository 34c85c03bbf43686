-- The laws of the search for the next loop out.
use Prim.Native.Nat.{ℕ, ◌-◌, ◌≤◌, ◌<◌}
use native.Mathlib.Omega.{arith}
use native.Mathlib.Decide.{ℕ_discrete, dec_lt}
use mathlib.Core.Path.{◌≡◌, sym}
use mathlib.Core.Bool.{false}
use Rattle.paper.specs.declared.Loop.{Loop}
use Rattle.paper.specs.Cases.{Case, inside}
use Rattle.paper.proofs.Meaning.{In}
use Rattle.paper.proofs.Says.{says_is, says_false}
use Rattle.paper.proofs.GraphLaws.{inside_says}
use Rattle.charge.specs.NextOut.{next_out}
use Rattle.charge.specs.ReadyFile.{Lawful}
use Rattle.charge.proofs.Last.{last_low, last_none, last_absent, last_found}

-- the search for loop j's is at c: the loops from c to j end before j's header
pub record Passing (e : Case) (j c : ℕ) : Type 0 where
  pub within : c ≤ j
  pub ended : (x : ℕ) → c ≤ x → x < j → (e.loop x).last < (e.loop j).first

module _ (e : Case) (g : Lawful e) (j : ℕ) (hj : j < e.loops) (c : ℕ) (w : Passing e j c) where
  not_in : (x : ℕ) → (e.loop x).last < (e.loop j).first → inside (e.loop x) (e.loop j).first ≡ false
  not_in x h = (says_false (inside_says _ _)).1 (λ (k : In (e.loop x) (e.loop j).first). omega (arith, k.1))

  pub passing_end : c ≤ 0 → 0 ≡ next_out e j
  passing_end h = sym (last_absent _ j (λ x b. not_in x (w.ended x (omega arith) b)))

  -- loop c - 1 comes before loop j
  pub passing_low : 0 < c → (c - 1 < j) × (c - 1 < e.loops)
  passing_low h = (omega (arith, w.within), omega (arith, w.within))

  module _ (s l : Loop) (es : s ≡ e.loop j) (el : l ≡ e.loop (c - 1)) (h : 0 < c) where
    -- it contains j's header
    pub passing_found : s.first ≤ l.last → c ≡ next_out e j
    passing_found k =
        let q : (e.loop j).first ≤ (e.loop (c - 1)).last = rw (← es, ← el) k in
        let r = last_found _ j (c - 1) (passing_low h).0
        (says_is (inside_says _ _) (omega (arith, g.rises (c - 1) j (passing_low h).0 hj), q)) (λ x a b. not_in x (w.ended x (omega arith) b)) in
        omega (arith, r)

    -- it ends before that header, and so do those between it and the next out of it: they end before its own header
    pub passing_more : l.last < s.first → (n : ℕ) → n ≡ next_out e (c - 1) → (n < c) × Passing e j n
    passing_more k n en =
        let q : (e.loop (c - 1)).last < (e.loop j).first = rw (← es, ← el) k in
        let o : next_out e (c - 1) ≤ c - 1 = last_low (λ x. inside (e.loop x) (e.loop (c - 1)).first) (c - 1) in (
          omega (arith, o, en),
          record {
            within = omega (arith, w.within, o, en);
            ended =
                λ x a b.
                elim (dec_lt x (c - 1)) [
                  | yes d ↦
                      between x (g.rises x (c - 1) d (passing_low h).1) (g.rises (c - 1) j (passing_low h).0 hj)
                      ((says_false (inside_says _ _)).0
                      (last_none (λ x. inside (e.loop x) (e.loop (c - 1)).first) (c - 1) x (omega (arith, en)) d))
                  | no d ↦
                      elim (ℕ_discrete x (c - 1)) [ yes z ↦ rw z q | no z ↦ w.ended x (omega arith) b ]
                ];
          },
        )
      where
        between :
            (x : ℕ) → (e.loop x).first < (e.loop (c - 1)).first → (e.loop (c - 1)).first < (e.loop j).first → ¬ In (e.loop x) (e.loop (c - 1)).first
            → (e.loop x).last < (e.loop j).first
        between x p q n =
            elim (dec_lt (e.loop x).last (e.loop j).first) [ yes z ↦ z | no z ↦ absurd (n (omega arith, omega arith)) ]
