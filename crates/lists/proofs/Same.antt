-- The rules of the content's case are those of the lists that each of them looks at.
use Rattle.std.specs.Prelude.{Ok, Err, Option}
use Prim.Native.Nat.{ℕ, zero, suc}
use native.Mathlib.Omega.{arith}
use mathlib.Core.Path.{◌≡◌, refl, sym, ◌∙◌, ap}
use mathlib.Core.List.{[]}
use Rattle.paper.specs.declared.Previous.{Previous}
use Rattle.paper.specs.declared.Refusal.{Refusal}
use Rattle.paper.specs.declared.Trailer.{Trailer}
use Rattle.paper.specs.Answers.{Verdict}
use Rattle.paper.specs.Cases.{Case, same_set}
use Rattle.paper.specs.Facts.{none_previous, previous_of, bad_head, bad_order, bad_slot, bad_row, bad_row_at, least_node}
use Rattle.paper.specs.Graphs.{bad_edge, bad_loop}
use Rattle.paper.specs.Verdicts.{shape_rules, head_rule, order_rule, row_rules}
use Rattle.paper.specs.Writing.{FileContent, trailer_in, loop_in, rows_named, case_in, content_rules, in_turn, bad_rows_named, written_turn, written_facts}
use Rattle.paper.proofs.RuleLaws.{Hands, hands_then, accepted_on, refused_on}
use Rattle.paper.proofs.VerdictLaws.{shape_kept, hands_shape}
use Rattle.lists.specs.Listed.{told, fact_case, Listed, Facts}
use Rattle.lists.specs.Turns.{turn, turns}
use Rattle.lists.proofs.Walk.{hands_turn}

turns_same : (e d : Case) (a b : ℕ → Option Previous → Verdict → Verdict) → ((i : ℕ) (previous : Option Previous) (rest : Verdict) → a i previous rest ≡ b i previous rest) →
    ((i : ℕ) → previous_of e (e.fact i) ≡ previous_of d (d.fact i)) → (n i : ℕ) (previous : Option Previous) (rest : Verdict) → in_turn e a n i previous rest ≡ in_turn d b n i previous rest
unfolding in_turn
turns_same e d a b h k zero i previous rest = refl
turns_same e d a b h k (suc n) i previous rest =
    h i previous _ ∙ ap (b i previous) (turns_same e d a b h k n (suc i) _ rest ∙ ap (λ (p : Option Previous). in_turn d b n (suc i) p rest) (k i))

hands_in_turn : (e : Case) (turn : ℕ → Option Previous → Verdict → Verdict) → ((i : ℕ) (previous : Option Previous) → Hands (turn i previous)) → (n i : ℕ) (previous : Option Previous) → Hands (in_turn e turn n i previous)
unfolding in_turn
hands_in_turn e turn h zero i previous rest = refl
hands_in_turn e turn h (suc n) i previous rest = hands_then (turn i previous) (in_turn e turn n (suc i) (previous_of e (e.fact i))) (h i previous) (hands_in_turn e turn h n (suc i) _) rest

hands_written : (c : FileContent) (i : ℕ) (previous : Option Previous) → Hands (written_turn c i previous)
unfolding written_turn
hands_written c i previous = hands_turn (case_in c) i previous (bad_rows_named c i)

-- what follows the rules is reached only where they accept
pub hands_rules : (c : FileContent) → Hands (λ rest. shape_rules (case_in c) (written_facts c rest))
unfolding written_facts
hands_rules c = hands_then (shape_rules (case_in c)) _ (hands_shape (case_in c)) (hands_in_turn (case_in c) (written_turn c) (hands_written c) (trailer_in c).facts 0 none_previous)

module _ (c : FileContent) where
  -- by the content's own numbers
  shape_is : (rest : Verdict) → shape_rules (case_in c) rest ≡ shape_rules (told (trailer_in c) c.edges c.loops [] []) rest
  unfolding shape_rules bad_edge bad_loop case_in loop_in trailer_in
  shape_is rest = refl

  turn_is : (i : ℕ) (previous : Option Previous) (rest : Verdict) → written_turn c i previous rest ≡ turn (trailer_in c) c.loops c.heads c.rows i previous rest
  unfolding written_turn content_rules head_rule order_rule row_rules bad_head bad_order bad_rows_named rows_named case_in loop_in least_node bad_row_at bad_row bad_slot same_set trailer_in
  turn_is i previous rest = refl

  previous_is : (i : ℕ) → previous_of (case_in c) ((case_in c).fact i) ≡ previous_of (fact_case (trailer_in c) c.loops c.heads c.rows) ((fact_case (trailer_in c) c.loops c.heads c.rows).fact i)
  unfolding case_in loop_in trailer_in
  previous_is i = refl

  facts_are : (rest : Verdict) → written_facts c rest ≡ turns (trailer_in c) c.loops c.heads c.rows rest
  unfolding written_facts
  facts_are rest = turns_same (case_in c) (fact_case (trailer_in c) c.loops c.heads c.rows) _ _ turn_is previous_is (trailer_in c).facts 0 none_previous rest

  -- the shape's verdict is v, over the trailer that is handed on
  module _ (t : Trailer) (k : Listed c t) (v : Verdict) (a : v ≡ shape_rules (told t c.edges c.loops [] []) (Ok tt)) where
    shaped_by : v ≡ shape_rules (case_in c) (Ok tt)
    shaped_by = a ∙ ap (λ (s : Trailer). shape_rules (told s c.edges c.loops [] []) (Ok tt)) k.is ∙ sym (shape_is (Ok tt))

    pub shape_refused : (r : Refusal) → v ≡ Err r → Err r ≡ shape_rules (case_in c) (written_facts c (Ok tt))
    shape_refused r q = sym (refused_on (shape_rules (case_in c)) (hands_shape (case_in c)) _ v shaped_by r q)

    module _ (q : v ≡ Ok tt) where
      pub facts_decide : (w : Verdict) → w ≡ turns t c.loops c.heads c.rows (Ok tt) → w ≡ shape_rules (case_in c) (written_facts c (Ok tt))
      facts_decide w b =
          b
          ∙ ap (λ (s : Trailer). turns s c.loops c.heads c.rows (Ok tt)) k.is
          ∙ sym (facts_are (Ok tt))
          ∙ sym (accepted_on (shape_rules (case_in c)) (hands_shape (case_in c)) (written_facts c (Ok tt)) v shaped_by q)

      pub judged : Facts t c.loops c.heads c.rows
      unfolding trailer_in case_in loop_in rows_named
      judged =
          let s = (shape_kept (case_in c) (Ok tt) (sym shaped_by ∙ q)).0 in
          let e : t.loops ≡ (trailer_in c).loops = ap (λ (u : Trailer). u.loops) k.is in
          let n : t.nodes ≡ (trailer_in c).nodes = ap (λ (u : Trailer). u.nodes) k.is in
          let v : t.version ≡ c.version = ap (λ (u : Trailer). u.version) k.is in
          record {
            nodes_low = k.nodes_low;
            nodes_high = k.nodes_high;
            loops_whole = k.loops;
            heads_whole = k.heads;
            rows_whole = k.rows;
            sets_low = k.sets_low;
            sets_high = k.sets_high;
            fits = λ j l. let w = s.fits j (omega arith) in rw v (w.0, omega (arith, w.1));
          }
