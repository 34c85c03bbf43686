-- `clock::time_on`: the check's refusals, else the answer for number 0 of its list.
use borrow.Author.Rules.{rules}
use Rattle.clock.proofs.Totals.{refused_time, time_shaped, accepted_answer}
use Rattle.clock.proofs.time_on.Goals as goal

pub returns-in_err-rule_on : goal.returns-in_err-rule_on
returns-in_err-rule_on c =
    search (rules, refused_time _ _ c.args.costs.now c.args.penalty _ _ _ _ c.rule_on.ensures _ c.in_err-rule_on.was)

pub timed-requires : goal.timed-requires
timed-requires c =
    record { laid = c.requires; shaped = time_shaped _ _ c.args.costs.now c.args.penalty _ _ _ _ c.rule_on.ensures c.in_ok-rule_on.was; most_nodes_in_bounds = search rules }

pub returns : goal.returns
returns c =
    accepted_answer _ _ _ _ _ _ _ _ c.rule_on.ensures c.in_ok-rule_on.was _ c.timed.ensures
