-- The shape decides, or else the facts do.
use borrow.Author.Rules.{rules}
use Rattle.lists.proofs.Same.{shape_refused, facts_decide, judged}
use Rattle.lists.proofs.rules_on.Goals as goal

pub returns-in_err-shape_rules_on-clause-value : goal.returns-in_err-shape_rules_on-clause-value
returns-in_err-shape_rules_on-clause-value c =
    search (rules, shape_refused _ _ c.requires _ c.shape_rules_on.ensures _ c.in_err-shape_rules_on.was)

pub invariant_of-lists : goal.invariant_of-lists
invariant_of-lists c = record { facts = judged _ _ c.requires _ c.shape_rules_on.ensures c.in_ok-shape_rules_on.was }

pub returns : goal.returns
returns c =
    record {
      value = facts_decide _ _ c.requires _ c.shape_rules_on.ensures c.in_ok-shape_rules_on.was _ c.fact_rules.ensures;
      facts = λ e. judged _ _ c.requires _ c.shape_rules_on.ensures c.in_ok-shape_rules_on.was;
    }
