-- The facts judged one by one: what is kept and what is dropped, by the turn of the first.
use Rattle.std.specs.Prelude.{Ok, Err, Option}
use Prim.Native.Nat.{ℕ, zero, suc, ◌+◌, ◌-◌, ◌*◌, ◌≤◌, ◌<◌}
use native.Mathlib.Omega.{arith}
use mathlib.Core.Path.{◌≡◌, refl, sym, ◌∙◌, ap, subst}
use mathlib.Core.Logic.{◌≢◌}
use mathlib.Core.Bool.{Bool, false, cond, ◌||◌}
use mathlib.Core.List.{List, ◌∷◌}
use lib.Dec.{ltb}
use lib.ListN.{length, get_or}
use borrow.Author.Tests.{le-ltb}
use Rattle.paper.specs.declared.Refusal.{Refusal}
use Rattle.paper.specs.declared.Loop.{Loop}
use Rattle.paper.specs.declared.Trailer.{Trailer}
use Rattle.paper.specs.declared.Previous.{Previous}
use Rattle.paper.specs.Answers.{Verdict}
use Rattle.paper.specs.Machines.{none}
use Rattle.paper.specs.Cases.{size, range_of}
use Rattle.paper.specs.Facts.{previous_of, wrong_scope}
use Rattle.paper.specs.Files.{end_at, head_end, loop_at, fact_at, fact_end, case_of}
use Rattle.paper.specs.Known.{Laid, Shaped}
use Rattle.paper.specs.Salvaging.{cut_short, next_place, turn_of, judged_from, kept_of, dropped_of}
use Rattle.paper.proofs.Says.{Says, says_le, says_eq, says_not, says_and, says_false}
use Rattle.paper.proofs.VerdictLaws.{KeptFact, turn_kept, end_after}
use Rattle.facts.proofs.Heads.{range_fits}

scope_says : (loops w : ℕ) → Says ((loops ≤ w) × ¬ (w ≡ none)) (wrong_scope loops w)
scope_says loops w = says_and (says_le loops w) (says_not (says_eq w none))

-- a scope number that is not wrong names a loop or the whole graph
pub scope_named : (loops w : ℕ) → wrong_scope loops w ≡ false → w ≢ none → w < loops
scope_named loops w h q =
    let m : ¬ (loops ≤ w) = λ l. (says_false (scope_says loops w)).0 h (l, q) in
    omega arith

module _ (f : List ℕ) (trailer : Trailer) where
  module _ (i : ℕ) (previous : Option Previous) (p : ℕ) where
    module _ (e : turn_of f trailer i previous p ≡ Ok tt) where
      kept : KeptFact f trailer p
      kept = (turn_kept f trailer i previous p (Ok tt) e).0

      scoped : wrong_scope trailer.loops (fact_at f p).scope ≡ false
      unfolding case_of
      scoped = (says_false (scope_says trailer.loops (fact_at f p).scope)).1 (λ q. omega (arith, kept.sound.head.scope q.1))

      -- a fact that passes its turn is not cut short
      next_kept : next_place f trailer p ≡ fact_end f trailer p
      unfolding next_place cut_short
      next_kept =
          rw (le-ltb (end_at f) (head_end p) (omega (arith, end_after f trailer p, kept.room)), scoped, le-ltb (end_at f) (fact_end f trailer p) kept.room) refl

      pub keeps : (n : ℕ) → kept_of (judged_from f trailer (suc n) i previous p)
          ≡ p ∷ kept_of (judged_from f trailer n (suc i) (previous_of (case_of f trailer) (fact_at f p)) (fact_end f trailer p))
      unfolding judged_from
      keeps n = rw (e, next_kept) refl

      pub drops_none : (n : ℕ) → dropped_of (judged_from f trailer (suc n) i previous p)
          ≡ dropped_of (judged_from f trailer n (suc i) (previous_of (case_of f trailer) (fact_at f p)) (fact_end f trailer p))
      unfolding judged_from
      drops_none n = rw (e, next_kept) refl

    module _ (r : Refusal) (e : turn_of f trailer i previous p ≡ Err r) where
      pub keeps_none : (n : ℕ) → kept_of (judged_from f trailer (suc n) i previous p) ≡ kept_of (judged_from f trailer n (suc i) previous (next_place f trailer p))
      unfolding judged_from
      keeps_none n = rw e refl

      pub drops : (n : ℕ) → dropped_of (judged_from f trailer (suc n) i previous p) ≡ r ∷ dropped_of (judged_from f trailer n (suc i) previous (next_place f trailer p))
      unfolding judged_from
      drops n = rw e refl

  -- every fact that is kept ends before the trailer
  pub kept_whole : (n i : ℕ) (previous : Option Previous) (p j : ℕ) → j < length (kept_of (judged_from f trailer n i previous p)) →
      fact_end f trailer (get_or (kept_of (judged_from f trailer n i previous p)) j 0) ≤ end_at f
  unfolding judged_from
  kept_whole zero i previous p j h = absurd (omega arith)
  kept_whole (suc n) i previous p j h = go (turn_of f trailer i previous p) refl (λ last q k l. kept_whole n (suc i) last q k l) j h
    where
      go : (v : Verdict) → turn_of f trailer i previous p ≡ v →
          ((last : Option Previous) (q k : ℕ) → k < length (kept_of (judged_from f trailer n (suc i) last q)) → fact_end f trailer (get_or (kept_of (judged_from f trailer n (suc i) last q)) k 0) ≤ end_at f) →
          (j : ℕ) → j < length (kept_of (judged_from f trailer (suc n) i previous p)) →
          fact_end f trailer (get_or (kept_of (judged_from f trailer (suc n) i previous p)) j 0) ≤ end_at f
      go (Ok tt) e ih zero h = rw (keeps i previous p e n) (kept i previous p e).room
      go (Ok tt) e ih (suc j) h =
          let l : suc j < length (p ∷ kept_of (judged_from f trailer n (suc i) (previous_of (case_of f trailer) (fact_at f p)) (fact_end f trailer p))) = rw (keeps i previous p e n) at h in
          rw (keeps i previous p e n) (ih _ _ j (omega arith))
      go (Err r) e ih j h = rw (keeps_none i previous p r e n) (ih _ _ j (rw (keeps_none i previous p r e n) at h))

-- where the fact after the one at p stands, by the outcomes a, b and c of the tests for a fact cut short
pub next_is : (f : List ℕ) (trailer : Trailer) (p : ℕ) (a b c : Bool) →
    a ≡ ltb (end_at f) (head_end p) → b ≡ wrong_scope trailer.loops (fact_at f p).scope → c ≡ ltb (end_at f) (fact_end f trailer p) →
    cond (a || (b || c)) (end_at f) (fact_end f trailer p) ≡ next_place f trailer p
unfolding next_place cut_short
next_is f trailer p a b c x y z = rw (x, y, z) refl

-- the fact that stands at p names the scope w
pub scope_is : (f : List ℕ) (p w : ℕ) → w ≡ (fact_at f p).scope → (loops : ℕ) (b : Bool) → b ≡ wrong_scope loops w → b ≡ wrong_scope loops (fact_at f p).scope
scope_is f p w x loops b e = e ∙ ap (wrong_scope loops) x

module _ (f : List ℕ) (trailer : Trailer) (p w : ℕ) (x : w ≡ (fact_at f p).scope) where
  module _ (s : Loop) (a : s ≡ range_of trailer.nodes (loop_at f trailer) w) where
    pub range_within : wrong_scope trailer.loops w ≡ false → Laid f trailer → Shaped (case_of f trailer) → (s.first ≤ s.last) × (s.last < trailer.nodes)
    range_within h laid shape =
        subst (λ (s : Loop). (s.first ≤ s.last) × (s.last < trailer.nodes)) (sym a) (range_fits f trailer w (scope_named trailer.loops w h) laid shape)

    pub rows_end : (rows : ℕ) → rows ≡ 16 * (s.last + 1 - s.first) → p + 6 + rows ≡ fact_end f trailer p
    unfolding fact_end
    rows_end rows e =
        let z : s ≡ range_of trailer.nodes (loop_at f trailer) (fact_at f p).scope = a ∙ ap (range_of trailer.nodes (loop_at f trailer)) x in
        omega (arith, e, ap (λ (l : Loop). size l) z)

    pub cut_is : (rows : ℕ) → rows ≡ 16 * (s.last + 1 - s.first) → (b : Bool) → b ≡ ltb (end_at f) (p + 6 + rows) → b ≡ ltb (end_at f) (fact_end f trailer p)
    cut_is rows e b q = q ∙ ap (ltb (end_at f)) (rows_end rows e)
