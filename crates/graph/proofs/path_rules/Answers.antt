-- Rule 8's least edge decides, then rule 9's, then the least dead node.
use mathlib.Core.Path.{refl}
use Rattle.paper.specs.Files.{case_of}
use Rattle.paper.specs.Verdicts.{path_rules}
use Rattle.layout.proofs.FirstLaws.{kept_first, passes_first, stops_first}
use Rattle.graph.specs.Marks.{edge_rule}
use Rattle.graph.proofs.path_rules.Goals as goal

pub returns-in-Some : goal.returns-in-Some
unfolding path_rules edge_rule case_of
returns-in-Some c = stops_first _ _ _ _ _ c.in-Some.ensures _ c.refuse.ensures

pub returns-in-Some-edge_rule : goal.returns-in-Some-edge_rule
unfolding path_rules edge_rule case_of
returns-in-Some-edge_rule c =
    passes_first _ _ _ _ c.in_default.ensures _ (stops_first _ _ _ _ _ c.in-Some-edge_rule.ensures _ c.refuse-in-Some-edge_rule.ensures)

pub first_dead-requires-clause-edges_value : goal.first_dead-requires-clause-edges_value
unfolding edge_rule case_of
first_dead-requires-clause-edges_value c = kept_first _ _ c.in_default.ensures

pub first_dead-requires-clause-edges_value_2 : goal.first_dead-requires-clause-edges_value_2
unfolding edge_rule case_of
first_dead-requires-clause-edges_value_2 c = kept_first _ _ c.in_default-edge_rule.ensures

pub returns-in-Some-first_dead : goal.returns-in-Some-first_dead
unfolding path_rules edge_rule case_of
returns-in-Some-first_dead c =
    passes_first _ _ _ _ c.in_default.ensures _
    (passes_first _ _ _ _ c.in_default-edge_rule.ensures _ (stops_first _ _ _ _ _ c.in-Some-first_dead.ensures _ c.refuse-in-Some-first_dead.ensures))

pub returns : goal.returns
unfolding path_rules edge_rule case_of
returns c =
    passes_first _ _ _ _ c.in_default.ensures _ (passes_first _ _ _ _ c.in_default-edge_rule.ensures _ (passes_first _ _ _ _ c.in_default-first_dead.ensures _ refl))
