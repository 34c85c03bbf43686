-- The loop over the facts of the lists, and the verdict that it comes to.
use Rattle.std.specs.Prelude.{Result, Ok, Err, Option, Some}
use Prim.Native.Nat.{ℕ, suc, ◌+◌, ◌-◌, ◌≤◌, ◌<◌}
use native.Mathlib.Omega.{arith}
use native.Mathlib.Numerals.{add-one}
use mathlib.Core.Path.{◌≡◌, refl, sym, ◌∙◌, ap}
use mathlib.Core.Bool.{Bool}
use mathlib.Core.List.{List}
use Rattle.paper.specs.declared.Refusal.{Refusal}
use Rattle.paper.specs.declared.Trailer.{Trailer}
use Rattle.paper.specs.declared.Previous.{Previous}
use Rattle.paper.specs.Answers.{refuse_at}
use Rattle.paper.specs.Lists.{some, sum_to}
use Rattle.paper.specs.Cases.{Case, size, scope_of}
use Rattle.paper.specs.Facts.{none_previous, bad_head, bad_order, bad_row_at, least_node}
use Rattle.paper.specs.Verdicts.{head_rule, order_rule, row_rules}
use Rattle.paper.specs.Writing.{content_rules, in_turn}
use Rattle.paper.proofs.RuleLaws.{Hands, hands_by, hands_rule, hands_then, accepted_on, refused_on}
use Rattle.facts.specs.declared.Kept.{Kept}
use Rattle.facts.specs.Turns.{verdict_of}
use Rattle.lists.specs.Listed.{fact_case}
use Rattle.lists.specs.Turns.{before, turn, turns, Told}

pub hands_turn : (e : Case) (i : ℕ) (previous : Option Previous) (short : Bool) → Hands (content_rules e i previous short)
unfolding content_rules head_rule order_rule row_rules
hands_turn e i previous short =
    hands_then _ _ (hands_rule 12 i (bad_head e (e.fact i)))
    (hands_then _ _ (hands_rule 13 i (bad_order e previous (e.fact i)))
    (hands_then _ _ (hands_rule 15 i short)
    (hands_by (refuse_at 16 i (least_node e (e.fact i) (bad_row_at e (e.fact i)))) (some (bad_row_at e (e.fact i)) (size (scope_of e (e.fact i)))))))

module _ (t : Trailer) (loops heads rows : List ℕ) where
  -- It is the turn of fact i, whose rows come after p others: what is still to be judged decides.
  pub record Walked (i : ℕ) (previous : Option Previous) (p : ℕ) : Type 0 where
    pub within : i ≤ t.facts
    pub here : p ≡ before t loops heads rows i
    pub rest : turns t loops heads rows (Ok tt) ≡ in_turn (fact_case t loops heads rows) (turn t loops heads rows) (t.facts - i) i previous (Ok tt)

  pub walk_start : Walked 0 none_previous 0
  unfolding sum_to
  walk_start =
      let z : t.facts - 0 ≡ t.facts = omega arith in
      record { within = omega arith; here = refl; rest = rw z refl }

  module _ (i : ℕ) (previous : Option Previous) (p : ℕ) (w : Walked i previous p) where
    module _ (h : i < t.facts) (r : Result Kept Refusal) (told : Told t loops heads rows i (turn t loops heads rows i previous) r) where
      one_more : t.facts - i ≡ suc (t.facts - (i + 1))
      one_more = omega arith

      pub walk_on : (k : Kept) → r ≡ Ok k → Walked (i + 1) (Some k.previous) k.end
      unfolding in_turn
      walk_on k e =
          let n = told.next k e in
          record {
            within = omega arith;
            here = rw (add-one i) n.end_is;
            rest =
                w.rest
                ∙ ap (λ m. in_turn (fact_case t loops heads rows) (turn t loops heads rows) m i previous (Ok tt)) one_more
                ∙ accepted_on (turn t loops heads rows i previous) (hands_turn _ i previous _) _ (verdict_of r) told.verdict (ap verdict_of e)
                ∙ rw (n.previous_is, add-one i) refl;
          }

      pub walk_stops : (x : Refusal) → r ≡ Err x → Err x ≡ turns t loops heads rows (Ok tt)
      unfolding in_turn
      walk_stops x e =
          sym
          (w.rest
          ∙ ap (λ m. in_turn (fact_case t loops heads rows) (turn t loops heads rows) m i previous (Ok tt)) one_more
          ∙ refused_on (turn t loops heads rows i previous) (hands_turn _ i previous _) _ (verdict_of r) told.verdict x (ap verdict_of e))

    pub walk_done : t.facts ≤ i → (Ok tt) ≡ turns t loops heads rows (Ok tt)
    unfolding in_turn
    walk_done h =
        let z : t.facts - i ≡ 0 = omega arith in
        sym (w.rest ∙ rw z refl)
