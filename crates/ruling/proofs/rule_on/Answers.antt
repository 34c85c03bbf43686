-- `rule_on` answers as its first part that refuses.
use Rattle.std.specs.Prelude.{Err}
use borrow.Author.Rules.{rules}
use mathlib.Core.Path.{◌≡◌}
use Rattle.ruling.proofs.Together.{graph_refused, graph_shaped, facts_refused, case_sound, facts_placed, judged}
use Rattle.ruling.proofs.rule_on.Goals as goal

pub returns-in_err-graph_rules : goal.returns-in_err-graph_rules
returns-in_err-graph_rules c =
    let e : c.from_residual.result ≡ Err c.in_err-graph_rules.field-0.0 = search rules in
    rw e (graph_refused _ _ _ c.graph_rules.ensures.value _ _ _ c.in_err-graph_rules.was)

pub fact_rules-requires : goal.fact_rules-requires
fact_rules-requires c =
    record { laid = c.requires.laid; shaped = graph_shaped _ _ _ c.graph_rules.ensures.value c.in_ok-graph_rules.was }

pub returns-in_err-fact_rules : goal.returns-in_err-fact_rules
returns-in_err-fact_rules c =
    let e : c.from_residual-in_err-fact_rules.result ≡ Err c.in_err-fact_rules.field-0.0 = search rules in
    rw e (facts_refused _ _ _ c.graph_rules.ensures.value c.in_ok-graph_rules.was _ c.fact_rules.ensures _ _ _ c.in_err-fact_rules.was)

pub charge-requires : goal.charge-requires
charge-requires c =
    let graph = c.graph_rules.ensures in
    let e = c.in_ok-graph_rules.was in
    let g = c.in_ok-fact_rules.was in
    record {
      laid = c.requires.laid;
      sound = case_sound _ _ _ graph.value e _ c.fact_rules.ensures g c.requires.laid;
      placed = facts_placed _ _ _ graph.value e _ c.fact_rules.ensures g;
      counted = graph.counted e;
      in_bounds = c.requires.list_length_in_bounds;
    }

pub returns : goal.returns
returns c =
    judged _ _ _ c.graph_rules.ensures.value c.in_ok-graph_rules.was _ c.fact_rules.ensures c.in_ok-fact_rules.was _ _ _ c.charge.ensures
