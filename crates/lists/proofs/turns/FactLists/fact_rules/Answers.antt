-- `FactLists::fact_rules` walks through the facts.
use borrow.Author.Rules.{rules}
use Rattle.lists.proofs.Walk.{walk_start, walk_on, walk_stops, walk_done}
use Rattle.lists.proofs.turns.FactLists.fact_rules.Goals as goal

pub turn_of-requires : goal.turn_of-requires
turn_of-requires c =
    record { i_lt_facts = search rules; p_value = c.loop-i.invariant.here }

pub returns-in_err-kept : goal.returns-in_err-kept
returns-in_err-kept c =
    search (rules, walk_stops _ _ _ _ _ _ _ c.loop-i.invariant c.loop-i-test.true _ c.turn_of.ensures _ c.in_err-kept.was)

pub loop-i-preserved : goal.loop-i-preserved
loop-i-preserved c =
    walk_on _ _ _ _ _ _ _ c.loop-i.invariant c.loop-i-test.true _ c.turn_of.ensures _ c.in_ok-kept.was

pub loop-i-init : goal.loop-i-init
loop-i-init c = walk_start _ _ _ _

pub returns : goal.returns
returns c = walk_done _ _ _ _ _ _ _ c.loop-i.invariant c.loop-i-test.false
