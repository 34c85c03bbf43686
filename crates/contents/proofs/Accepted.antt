-- Every file that the check accepts passes the layout rules, so it comes out again.
use Rattle.std.specs.Prelude.{Ok, Option}
use Prim.Native.Nat.{ℕ, zero, suc}
use mathlib.Core.Path.{◌≡◌}
use mathlib.Core.List.{List}
use lib.Dec.{ltb}
use Rattle.paper.specs.declared.Trailer.{Trailer}
use Rattle.paper.specs.declared.Previous.{Previous}
use Rattle.paper.specs.Answers.{Verdict, refuse_at}
use Rattle.paper.specs.Lists.{some}
use Rattle.paper.specs.Cases.{size, scope_of}
use Rattle.paper.specs.Facts.{none_previous, previous_of, bad_head, bad_order, unfetched, bad_row_at, least_node}
use Rattle.paper.specs.Files.{end_at, trailer_of, head_end, fact_at, fact_end, fact_place, case_of, read_case}
use Rattle.paper.specs.Verdicts.{head_rule, order_rule, fetch_rule, row_rules, body_rules, turn_rules, turns_from, fact_rules, verdict}
use Rattle.paper.specs.Demands.{Bytes}
use Rattle.paper.specs.Writing.{file_of, content_of, content_rules, in_turn, laid_turn, laid_facts, layout_verdict}
use Rattle.paper.proofs.RuleLaws.{past_by, past}
use Rattle.paper.proofs.FactLaws.{evidence_kept}
use Rattle.paper.proofs.VerdictLaws.{hands_layout, hands_shape, hands_paths, hands_counts, enough}
use Rattle.contents.proofs.Kept.{chain_kept, kept_chain}
use Rattle.contents.proofs.Rewriting.{written_again}

module _ (f : List ℕ) (t : Trailer) where
  -- a turn that passes 11 to 18 passes 11 to 13, 15 and 16
  turn_laid : (i : ℕ) (previous : Option Previous) (rest next : Verdict) → turn_rules f t i previous (fact_place f t i) rest ≡ Ok tt →
      (rest ≡ Ok tt → next ≡ Ok tt) → laid_turn f t i previous next ≡ Ok tt
  unfolding turn_rules head_rule order_rule body_rules fetch_rule row_rules laid_turn content_rules case_of
  turn_laid i previous rest next h k =
      let e = case_of f t in
      let s = fact_at f (fact_place f t i) in
      let a = past 11 i (ltb (end_at f) (head_end (fact_place f t i))) _ h in
      let b = past 12 i (bad_head e s) _ a.1 in
      let c = past 13 i (bad_order e previous s) _ b.1 in
      let d = past 14 i (unfetched e s) _ c.1 in
      let g = past 15 i (ltb (end_at f) (fact_end f t (fact_place f t i))) _ d.1 in
      let r = past_by (refuse_at 16 i (least_node e s (bad_row_at e s))) (some (bad_row_at e s) (size (scope_of e s))) _ g.1 in
      rw (a.0, b.0, c.0, g.0, r.0) (k (evidence_kept e s i rest g.1).1)

  turns_laid : (n i : ℕ) (previous : Option Previous) (rest next : Verdict) → turns_from f t n i previous (fact_place f t i) rest ≡ Ok tt →
      (rest ≡ Ok tt → next ≡ Ok tt) → in_turn (case_of f t) (laid_turn f t) n i previous next ≡ Ok tt
  unfolding turns_from in_turn fact_place case_of
  turns_laid zero i previous rest next h k = k h
  turns_laid (suc n) i previous rest next h k =
      turn_laid i previous _ _ h (λ r. turns_laid n (suc i) (previous_of (case_of f t) (fact_at f (fact_place f t i))) rest next r k)

  facts_laid : fact_rules f t (Ok tt) ≡ Ok tt → laid_facts f t (Ok tt) ≡ Ok tt
  unfolding fact_rules laid_facts fact_place
  facts_laid h = turns_laid t.facts 0 none_previous _ _ h (λ r. r)

pub accepted_layout : (f : List ℕ) (room : ℕ) → verdict f room ≡ Ok tt → layout_verdict f ≡ Ok tt
accepted_layout f room h =
    let e = read_case f in
    let a = chain_kept _ (hands_layout f) _ (enough f room h) in
    let b = chain_kept _ (hands_shape e) _ a.1 in
    let c = chain_kept _ (hands_paths e) _ b.1 in
    let d = chain_kept _ (hands_counts e) _ c.1 in
    kept_chain _ (hands_layout f) _ a.0 (kept_chain _ (hands_shape e) _ b.0 (facts_laid f (trailer_of f) d.1))

pub accepted_again : (f : List ℕ) (room : ℕ) → Bytes f → verdict f room ≡ Ok tt → file_of (content_of f) ≡ f
accepted_again f room b h = written_again f b (accepted_layout f room h)
