-- The laws of `first`: for a loop that looks for it, for those who are told of it, and for a rule that it decides.
use Rattle.std.specs.Prelude.{Err}
use Prim.Native.Nat.{ℕ, ◌≤◌, ◌<◌}
use native.Mathlib.Omega.{arith}
use native.Mathlib.Decide.{dec_le}
use mathlib.Core.Path.{◌≡◌, refl, sym, ◌∙◌, ap}
use mathlib.Core.Bool.{Bool, true, false}
use borrow.Author.Tests.{lt-ltb, le-ltb}
use Rattle.std.proofs.Common.{None, Some}
use Rattle.paper.specs.declared.Refusal.{Refusal}
use Rattle.paper.specs.Answers.{Verdict, refuse}
use Rattle.paper.specs.Lists.{least, some}
use Rattle.paper.specs.Rules.{rule_at}
use Rattle.paper.proofs.Least.{Passed, least_found, least_end}
use Rattle.paper.proofs.RuleLaws.{keeps, passes_at, stops_at}
use Rattle.layout.specs.Firsts.{first}

module _ (p : ℕ → Bool) (n : ℕ) where
  first_is : least p n < n → first p n ≡ Some (least p n)
  unfolding first
  first_is l = rw (lt-ltb (least p n) n l) refl

  none_is : n ≤ least p n → first p n ≡ None
  unfolding first
  none_is l = rw (le-ltb (least p n) n l) refl

  -- a loop that looks for the first is at i
  module _ (i : ℕ) (w : Passed p n i) where
    pub first_found : (b : Bool) → i < n → b ≡ p i → b ≡ true → Some i ≡ first p n
    first_found b l e t =
        let z = least_found p n i b w l e t in
        sym (first_is (omega arith) ∙ ap Some (sym z))

    pub first_end : n ≤ i → None ≡ first p n
    first_end l =
        let z = least_end p n i w l in
        sym (none_is (omega (arith, w.within)))

  pub told_first : (j : ℕ) → Some j ≡ first p n → (j ≡ least p n) × (j < n)
  told_first j e =
      elim (dec_le n (least p n)) [
        | yes l ↦ let z = none_is l in absurd (cc)
        | no l ↦
            let q : least p n < n = omega arith in
            let z = first_is q in
            let i : j ≡ least p n = cc in
            (i, omega arith)
      ]

  pub told_none : None ≡ first p n → n ≤ least p n
  told_none e =
      elim (dec_le n (least p n)) [
        | yes l ↦ l
        | no l ↦
            let q : least p n < n = omega arith in
            let z = first_is q in
            absurd (cc)
      ]

  pub kept_first : None ≡ first p n → some p n ≡ false
  kept_first e = keeps p n (least p n) refl (told_none e)

  -- the rule whose least place it is
  module _ (number : ℕ) (rest : Verdict) where
    pub passes_first : None ≡ first p n → (v : Verdict) → v ≡ rest → v ≡ rule_at number p n rest
    passes_first e v h = passes_at _ _ _ _ _ refl v (told_none e) h

    pub stops_first : (i : ℕ) → Some i ≡ first p n → (r : Refusal) → r ≡ refuse number i → Err r ≡ rule_at number p n rest
    stops_first i e r h = let t = told_first i e in stops_at _ _ _ _ _ t.0 r t.1 h

-- tests with one least place
pub first_same : (p q : ℕ → Bool) (n : ℕ) → least p n ≡ least q n → first p n ≡ first q n
unfolding first
first_same p q n e = rw e refl
