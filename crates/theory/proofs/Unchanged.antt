-- Where every turn passes, every fact is kept and stands where it stood: a sound file is salvaged as itself.
use Rattle.std.specs.Prelude.{Ok, Option}
use Prim.Native.Nat.{ℕ, zero, suc, ◌+◌, ◌≤◌}
use native.Mathlib.Omega.{arith}
use mathlib.Core.Path.{◌≡◌, refl, sym, ◌∙◌, ap, subst}
use mathlib.Core.Bool.{false}
use mathlib.Core.List.{List, [], ◌∷◌}
use lib.ListN.{length, take, drop, length-append, length-take}
use borrow.Author.Tests.{le-ltb, ltb-false}
use Rattle.paper.specs.declared.Trailer.{Trailer}
use Rattle.paper.specs.declared.Previous.{Previous}
use Rattle.paper.specs.Answers.{Verdict}
use Rattle.paper.specs.Lists.{spaced}
use Rattle.paper.specs.Facts.{none_previous, previous_of, wrong_scope, wrong_head, bad_head}
use Rattle.paper.specs.Files.{end_at, trailer_of, facts_at, head_end, fact_at, fact_end, fact_place, case_of, read_case}
use Rattle.paper.specs.Verdicts.{turns_from, fact_rules, file_verdict}
use Rattle.paper.specs.OneFact.{words, graph_bytes, trailer_with, with_facts}
use Rattle.paper.specs.Demands.{Bytes}
use Rattle.paper.specs.Salvaging.{cut_short, next_place, judged_from, judged, fact_part, fact_parts, kept_of, kept, salvaged}
use Rattle.paper.proofs.Says.{neither}
use Rattle.paper.proofs.RuleLaws.{past}
use Rattle.paper.proofs.LayoutTests.{KeptLayout, tests_kept}
use Rattle.paper.proofs.VerdictLaws.{KeptTurn, turn_tests, turn_passes, end_after, layout_kept, graph_kept}
use Rattle.paper.proofs.Parts.{Stands, stands_self, stands_take, stands_drop, stands_move, stands_both, stands_empty, stands_whole}
use Rattle.paper.proofs.Spaces.{part_stands}
use Rattle.paper.proofs.Sections.{length_words, words_stand}
use Rattle.theory.proofs.Moved.{span, length_fact}
use Rattle.theory.proofs.WithFacts.{offsets, graph_length, last_length, last_part, file_length}

module _ (f : List ℕ) (t : Trailer) where
  -- a fact that passes its turn is not cut short
  whole : (previous : Option Previous) (p : ℕ) → KeptTurn f t previous p → cut_short f t p ≡ false
  unfolding cut_short bad_head wrong_head case_of
  whole previous p k =
      rw (
        le-ltb (end_at f) (head_end p) (omega (arith, k.room, end_after f t p)),
        (neither (wrong_scope t.loops (fact_at f p).scope) _ k.head).0,
        le-ltb (end_at f) (fact_end f t p) k.room,
      )
      refl

  abbrev from : ℕ → ℕ → Option Previous → ℕ → List ℕ
  from n i previous p = kept_of (judged_from f t n i previous p)

  one_kept : (n i : ℕ) (previous : Option Previous) (p : ℕ) → KeptTurn f t previous p →
      from (suc n) i previous p ≡ p ∷ from n (suc i) (previous_of (case_of f t) (fact_at f p)) (fact_end f t p)
  unfolding judged_from next_place
  one_kept n i previous p k = rw (turn_passes f t i previous p k, whole previous p k) refl

  -- These places are those of n facts, from fact i on, which stands at p: their bytes stand there, without a gap.
  record Unbroken (n i p : ℕ) (places : List ℕ) : Type 0 where
    number : length places ≡ n
    here : Stands f p (fact_parts f t places)
    end : p + length (fact_parts f t places) ≡ fact_place f t (i + n)
    room : p ≤ end_at f → fact_place f t (i + n) ≤ end_at f

  all_kept : (n i : ℕ) (previous : Option Previous) (p : ℕ) (rest : Verdict) → fact_place f t i ≡ p → turns_from f t n i previous p rest ≡ Ok tt →
      Unbroken n i p (from n i previous p) × (rest ≡ Ok tt)
  unfolding turns_from judged_from fact_place
  all_kept zero i previous p rest e h =
      let z : i + 0 ≡ i = omega arith in
      (record { number = refl; here = stands_empty f p; end = rw z (omega (arith, e)); room = λ l. rw z (omega (arith, e)) }, h)
  all_kept (suc n) i previous p rest e h =
      let k = turn_tests f t i previous p _ h in
      let r = all_kept n (suc i) (previous_of (case_of f t) (fact_at f p)) (fact_end f t p) rest (ap (fact_end f t) e) k.1 in
      let z : i + suc n ≡ suc i + n = omega arith in
      let places = from n (suc i) (previous_of (case_of f t) (fact_at f p)) (fact_end f t p) in
      let length-here : p + length (fact_part f t p) ≡ fact_end f t p = omega (arith, length_fact f t p, end_after f t p) in (
        subst (Unbroken (suc n) i p) (sym (one_kept n i previous p k.0))
            (record {
              number = ap suc r.0.number;
              here = stands_both f p (fact_part f t p) (fact_parts f t places) (part_stands f p (span f t p)) (stands_move f _ (sym length-here) r.0.here);
              end = rw z (omega (arith, length-append (fact_part f t p) (fact_parts f t places), length-here, r.0.end));
              room = λ l. rw z (r.0.room k.0.room);
            }),
        r.1,
      )

module _ (f : List ℕ) (b : Bytes f) (layout : KeptLayout f (trailer_of f)) where
  abbrev last : List ℕ
  last = drop (end_at f) f

  number_stands : Stands f (end_at f + 22) (words ((trailer_of f).facts ∷ []))
  unfolding trailer_of spaced
  number_stands = words_stand f b (end_at f + 22) 1

  -- the trailer with the number of facts that it has
  trailer_stands : Stands f (end_at f) (trailer_with f (trailer_of f).facts)
  trailer_stands =
      let long = last_length f [] 0 layout in
      let all = last_part f [] 0 layout in
      stands_both f (end_at f) (take 22 last) _ (stands_take f (end_at f) 22 last all)
      (stands_move f _ (omega (arith, length-take 22 last, long))
      (stands_both f (end_at f + 22) (words ((trailer_of f).facts ∷ [])) _ number_stands
      (stands_move f _ (omega (arith, length_words ((trailer_of f).facts ∷ []))) (stands_drop f (end_at f) 24 last all))))

-- "when the first file was already sound it is the same file"
pub salvaged_same : (f : List ℕ) → Bytes f → file_verdict f ≡ Ok tt → salvaged f ≡ f
unfolding salvaged with_facts judged fact_rules fact_place
salvaged_same f b a =
    let t = trailer_of f in
    let layout = tests_kept f _ a in
    let facts : fact_rules f t (Ok tt) ≡ (Ok tt) = (graph_kept (read_case f) _ (layout_kept f _ a).1).2 in
    let all = all_kept f t t.facts 0 none_previous (facts_at t) _ refl facts in
    let parts = fact_parts f t (kept f) in
    let n = length (kept f) in
    let none_left : end_at f ≤ fact_place f t t.facts = ltb-false _ _ (past 19 0 _ _ all.1).0 in
    let inside : fact_place f t (0 + t.facts) ≤ end_at f = all.0.room (offsets f parts n layout).room in
    let z : 0 + t.facts ≡ t.facts = omega arith in
    let full : fact_place f t (0 + t.facts) ≡ end_at f = omega (arith, inside, none_left, ap (fact_place f t) z) in
    let ends : facts_at t + length parts ≡ end_at f = all.0.end ∙ full in
    let trailer : Stands f (end_at f) (trailer_with f n) = subst (λ (m : ℕ). Stands f (end_at f) (trailer_with f m)) (sym all.0.number) (trailer_stands f b layout) in
    stands_whole f _
    (stands_both f 0 (graph_bytes f) _ (stands_take f 0 (facts_at t) f (stands_self f))
    (stands_move f _ (omega (arith, graph_length f parts n layout)) (stands_both f (facts_at t) parts _ all.0.here (stands_move f _ (sym ends) trailer))))
    (file_length f parts n layout ∙ omega (arith, ends, layout.long))
