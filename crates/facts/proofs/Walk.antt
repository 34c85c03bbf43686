-- The loop over the facts, and the verdict that it comes to.
use Rattle.std.specs.Prelude.{Option, Some, Result, Ok, Err}
use Prim.Native.Nat.{ℕ, suc, ◌+◌, ◌-◌, ◌≤◌, ◌<◌}
use native.Mathlib.Omega.{arith}
use native.Mathlib.Numerals.{add-one}
use mathlib.Core.Path.{◌≡◌, refl, sym, ◌∙◌, ap}
use mathlib.Core.List.{List}
use lib.Dec.{ltb}
use borrow.Author.Tests.{lt-ltb, le-ltb}
use Rattle.paper.specs.declared.Refusal.{Refusal}
use Rattle.paper.specs.declared.Trailer.{Trailer}
use Rattle.paper.specs.declared.Previous.{Previous}
use Rattle.paper.specs.Answers.{Verdict, refuse}
use Rattle.paper.specs.Facts.{none_previous}
use Rattle.paper.specs.Files.{end_at, facts_at, fact_end, fact_place}
use Rattle.paper.specs.Known.{Laid}
use Rattle.paper.specs.Rules.{rule}
use Rattle.paper.specs.Verdicts.{turn_rules, turns_from, fact_rules}
use Rattle.paper.proofs.VerdictLaws.{turns_on, turns_stop}
use Rattle.facts.specs.declared.Kept.{Kept}
use Rattle.facts.specs.Turns.{verdict_of, Told}

module _ (f : List ℕ) (trailer : Trailer) where
  -- 19: "bytes left between last fact and trailer"
  abbrev left : Verdict
  left = rule 19 0 (ltb (fact_place f trailer trailer.facts) (end_at f)) (Ok tt)

  -- It is the turn of fact i, which stands at p after the previous one: what is still to be judged decides.
  pub record Walked (i : ℕ) (previous : Option Previous) (p : ℕ) : Type 0 where
    pub within : i ≤ trailer.facts
    pub here : p ≡ fact_place f trailer i
    pub room : p ≤ end_at f
    pub rest : fact_rules f trailer (Ok tt) ≡ turns_from f trailer (trailer.facts - i) i previous p left

  pub walk_start : Laid f trailer → (p : ℕ) → p ≡ facts_at trailer → Walked 0 none_previous p
  unfolding fact_rules fact_place
  walk_start laid p e =
      let z : trailer.facts - 0 ≡ trailer.facts = omega arith in
      record { within = omega arith; here = e; room = omega (arith, laid.room); rest = rw (z, e) refl }

  module _ (i : ℕ) (previous : Option Previous) (p : ℕ) (w : Walked i previous p) where
    module _ (h : i < trailer.facts) (r : Result Kept Refusal) (told : Told f trailer p (turn_rules f trailer i previous p) r) where
      one_more : trailer.facts - i ≡ suc (trailer.facts - (i + 1))
      one_more = omega arith

      pub walk_on : (k : Kept) → r ≡ Ok k → Walked (i + 1) (Some k.previous) k.end
      unfolding fact_place
      walk_on k e =
          let n = told.next k e in
          record {
            within = omega arith;
            here = rw (add-one i) (n.end_is ∙ ap (fact_end f trailer) w.here);
            room = n.room;
            rest =
                w.rest
                ∙ ap (λ m. turns_from f trailer m i previous p left) one_more
                ∙ turns_on f trailer (trailer.facts - (i + 1)) i previous p left (verdict_of r) told.verdict (ap verdict_of e)
                ∙ rw (n.previous_is, n.end_is, add-one i) refl;
          }

      pub walk_stops : (x : Refusal) → r ≡ Err x → Err x ≡ fact_rules f trailer (Ok tt)
      walk_stops x e =
          sym
          (w.rest
          ∙ ap (λ m. turns_from f trailer m i previous p left) one_more
          ∙ turns_stop f trailer (trailer.facts - (i + 1)) i previous p left (verdict_of r) told.verdict x (ap verdict_of e))

    module _ (h : trailer.facts ≤ i) where
      ends : fact_rules f trailer (Ok tt) ≡ rule 19 0 (ltb p (end_at f)) (Ok tt)
      unfolding turns_from
      ends =
          let z : trailer.facts - i ≡ 0 = omega arith in
          let q : trailer.facts ≡ i = omega (arith, w.within) in
          let k : fact_place f trailer trailer.facts ≡ p = ap (fact_place f trailer) q ∙ sym w.here in
          w.rest ∙ rw (z, k) refl

      pub walk_left : (x : Refusal) → p < end_at f → x ≡ refuse 19 0 → Err x ≡ fact_rules f trailer (Ok tt)
      walk_left x l e = sym (ends ∙ rw (lt-ltb p (end_at f) l, e) refl)

      pub walk_done : end_at f ≤ p → (Ok tt) ≡ fact_rules f trailer (Ok tt)
      walk_done l = sym (ends ∙ rw (le-ltb p (end_at f) l) refl)
