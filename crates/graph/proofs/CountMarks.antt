-- The table of counts, loop by loop, and rule 10 by it.
use Prim.Native.Nat.{ℕ, zero, suc, ◌≤◌, ◌<◌}
use native.Mathlib.Omega.{arith}
use native.Mathlib.Decide.{dec_le}
use mathlib.Core.Path.{◌≡◌, refl, sym, ◌∙◌, ap}
use mathlib.Core.Bool.{Bool}
use borrow.Author.Tests.{lt-ltb, le-ltb, ne_eqb}
use mathlib.Core.List.{List}
use lib.Dec.{eqb, lit≤}
use lib.ListN.{get_or}
use Rattle.std.proofs.Common.{Option, None}
use Rattle.paper.specs.declared.Trailer.{Trailer}
use Rattle.paper.specs.Lists.{chain}
use Rattle.paper.specs.Cases.{Case, inside}
use Rattle.paper.specs.Graphs.{innermost, count, bad_count}
use Rattle.paper.specs.Files.{case_of}
use Rattle.paper.proofs.Least.{least_same, none_some}
use Rattle.paper.proofs.Says.{Says, holds, fails, says_false}
use Rattle.paper.proofs.Meaning.{In}
use Rattle.paper.proofs.GraphLaws.{inside_says, count_says}
use Rattle.paper.proofs.Nests.{visits_pos}
use Rattle.layout.specs.Counted.{Counted}
use Rattle.layout.specs.Firsts.{first}
use Rattle.layout.proofs.FirstLaws.{first_same, kept_first}
use Rattle.loops.specs.Counts.{shown, count_to}
use Rattle.loops.proofs.Shown.{shown_small, shown_large}
use Rattle.loops.proofs.Headers.{count_out, count_same}
use Rattle.graph.specs.Filled.{Holds}
use Rattle.paper.specs.Known.{Shaped}
use Rattle.graph.specs.declared.marks.Rule.TheVariants.{Count}
use Rattle.graph.specs.Marks.{loop_mark, marks, marked_to}
use Rattle.graph.proofs.Marking.{marked_start, marked_in, marked_out}

module _ (e : Case) (w : Shaped e) where
  count_pos : (v : ℕ) → 0 < count e v
  unfolding count innermost
  count_pos v = visits_pos e (λ j q. (w.fits j q).2) w.limited (λ j. inside (e.loop j) v) e.loops (omega arith)

  -- rule 10 by the table
  count_test : (v : ℕ) → eqb (shown (count e v)) 0 ≡ bad_count e v
  unfolding bad_count
  count_test v =
      elim (dec_le (count e v) 4294967295) [
        | yes h ↦ rw (shown_small (count e v) h, le-ltb _ _ h) (ne_eqb (count e v) 0 (λ z. omega (arith, count_pos v)))
        | no h ↦
            let m : 4294967295 < count e v = omega arith in
            rw (shown_large (count e v) m, lt-ltb _ _ m) refl
      ]

  -- the marks of rule 10 are the counts
  count_marks : (v n : ℕ) → n ≤ e.loops → marked_to (marks e Count) 1 v n ≡ shown (count_to e v n)
  unfolding count_to chain marks loop_mark
  count_marks v zero h = marked_start _ 1 v ∙ sym (shown_small 1 (lit≤ tt))
  count_marks v (suc n) h = go (inside_says (e.loop n) v) (count_marks v n (omega arith))
    where
      go : {s : Bool} → Says (In (e.loop n) v) s → marked_to (marks e Count) 1 v n ≡ shown (count_to e v n) →
          marked_to (marks e Count) 1 v (suc n) ≡ shown (count_to e v (suc n))
      go (holds p) ih = marked_in (marks e Count) 1 v n (p.0, omega (arith, p.1)) ∙ ap shown (sym (count_same e w.rises w.nested n h v p))
      go (fails k) ih = marked_out (marks e Count) 1 v n (λ p. k (p.0, omega (arith, p.1))) ∙ ih ∙ ap shown (sym (count_out e v n k))

-- the table by which rule 10 is tested
module _ (f : List ℕ) (trailer : Trailer) (w : Shaped (case_of f trailer)) (l : List ℕ)
    (h : Holds (λ v. marked_to (marks (case_of f trailer) Count) 1 v trailer.loops) trailer.nodes l) where
  shows : (v : ℕ) → v < trailer.nodes → get_or l v 0 ≡ shown (count (case_of f trailer) v)
  unfolding case_of count_to count innermost
  shows v q = h.at v q ∙ count_marks (case_of f trailer) w v trailer.loops (omega arith)

  pub first_count : (r : Option ℕ) → r ≡ first (λ v. eqb (get_or l v 0) 0) trailer.nodes → r ≡ first (bad_count (case_of f trailer)) trailer.nodes
  first_count r p = p ∙ first_same _ _ trailer.nodes (least_same _ _ trailer.nodes (λ v q. rw (shows v q) (count_test (case_of f trailer) w v)))

  pub all_counted : None ≡ first (bad_count (case_of f trailer)) trailer.nodes → Counted f trailer l
  all_counted p =
      record {
        room = h.room;
        at = λ v r.
            let n = (says_false (count_says (case_of f trailer) v)).0 (none_some _ _ (kept_first _ _ p) v r) in
            shows v r ∙ shown_small (count (case_of f trailer) v) (omega arith);
      }
