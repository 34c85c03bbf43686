-- `finder::rules_on` answers as the graph's rules where they refuse, else as those of what is sought.
use borrow.Author.Rules.{rules}
use Rattle.finder.proofs.Ends.{graph_refused, graph_shaped, sought_decides}
use Rattle.finder.proofs.rules_on.Goals as goal

pub returns-in_err-graph_rules : goal.returns-in_err-graph_rules
returns-in_err-graph_rules c =
    search (rules, graph_refused _ _ c.graph_rules.ensures.value _ c.in_err-graph_rules.was)

pub sought_rules-requires : goal.sought_rules-requires
sought_rules-requires c =
    record { laid = c.requires; shaped = graph_shaped _ _ c.graph_rules.ensures.value c.in_ok-graph_rules.was }

pub returns : goal.returns
returns c =
    sought_decides _ _ c.graph_rules.ensures.value c.in_ok-graph_rules.was _ _ c.sought_rules.ensures
