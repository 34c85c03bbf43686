-- `fact_rules` walks through the facts.
use native.Mathlib.Omega.{arith}
use borrow.Author.Rules.{rules}
use Rattle.facts.proofs.Walk.{walk_start, walk_on, walk_stops, walk_left, walk_done}
use Rattle.facts.proofs.fact_rules.Goals as goal

pub loop-i-init : goal.loop-i-init
loop-i-init c = walk_start _ _ c.requires.laid _ c.facts_at-p.ensures

pub turn_of-requires : goal.turn_of-requires
turn_of-requires c =
    record { laid = search rules; shaped = search rules; p_bound = c.loop-i.invariant.room }

pub returns-in_err-kept : goal.returns-in_err-kept
returns-in_err-kept c =
    search (rules, walk_stops _ _ _ _ _ c.loop-i.invariant (omega (arith, c.loop-i-test.true)) _ c.turn_of.ensures _ c.in_err-kept.was)

pub loop-i-preserved : goal.loop-i-preserved
loop-i-preserved c =
    walk_on _ _ _ _ _ c.loop-i.invariant (omega (arith, c.loop-i-test.true)) _ c.turn_of.ensures _ c.in_ok-kept.was

pub returns-then-p-end_of : goal.returns-then-p-end_of
returns-then-p-end_of c =
    walk_left _ _ _ _ _ c.loop-i.invariant (omega (arith, c.loop-i-test.false)) _ (omega (arith, c.if-p-end_of.true, c.end_of.ensures)) c.refuse.ensures

pub returns : goal.returns
returns c =
    walk_done _ _ _ _ _ c.loop-i.invariant (omega (arith, c.loop-i-test.false)) (omega (arith, c.if-p-end_of.false, c.end_of.ensures))
