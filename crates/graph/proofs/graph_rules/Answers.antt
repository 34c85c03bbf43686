-- `graph_rules` answers as the first of its parts that refuses, or as the last.
use borrow.Author.Rules.{rules}
use Rattle.graph.proofs.GraphChains.{shape_refused, shape_passed, paths_refused, counts_decide}
use Rattle.graph.proofs.graph_rules.Goals as goal

pub returns-in_err-shape_rules-clause-value : goal.returns-in_err-shape_rules-clause-value
returns-in_err-shape_rules-clause-value c =
    search (rules, shape_refused _ _ c.shape_rules.ensures _ c.in_err-shape_rules.was)

pub path_rules-requires-clause-shaped : goal.path_rules-requires-clause-shaped
path_rules-requires-clause-shaped c = shape_passed _ _ c.shape_rules.ensures c.in_ok-shape_rules.was

pub returns-in_err-path_rules-clause-value : goal.returns-in_err-path_rules-clause-value
returns-in_err-path_rules-clause-value c =
    search (rules, paths_refused _ _ c.shape_rules.ensures c.in_ok-shape_rules.was _ c.path_rules.ensures _ c.in_err-path_rules.was)

pub count_rules-requires-clause-shaped : goal.count_rules-requires-clause-shaped
count_rules-requires-clause-shaped c = shape_passed _ _ c.shape_rules.ensures c.in_ok-shape_rules.was

pub returns-clause-value : goal.returns-clause-value
returns-clause-value c =
    counts_decide _ _ c.shape_rules.ensures c.in_ok-shape_rules.was _ c.path_rules.ensures c.in_ok-path_rules.was _ c.count_rules.ensures.value
