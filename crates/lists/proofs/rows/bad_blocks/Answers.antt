-- `lists::rows::bad_blocks`: the first slot that fails stops the loop; before it none did, and `low` is the least that the next may be.
use native.Mathlib.Omega.{arith}
use lib.Dec.{eqb}
use borrow.Author.Tests.{eqb-false}
use Rattle.paper.proofs.Least.{passed_start, passed_more, some_found, some_end}
use Rattle.paper.proofs.Says.{neither}
use Rattle.evidence.proofs.Slots.{lowest_start, lowest_more}
use Rattle.lists.specs.Listed.{row_at}
use Rattle.lists.proofs.Slots.{set_held, block_test}
use Rattle.lists.proofs.rows.bad_blocks.Goals as goal

pub returns-then-x-h : goal.returns-then-x-h
returns-then-x-h c =
    some_found _ _ _ c.loop-i.invariant.0 _ c.loop-i-test.true (block_test _ _ c.args.h (row_at _ _) _ _ _ _ _ c.slot_at-x.ensures c.requires.judged.home (set_held c.requires.set_at) c.loop-i-test.true c.loop-i.invariant.1 c.elsewhere.ensures) c.if-x-h.true

pub overflow_add-low : goal.overflow_add-low
overflow_add-low c =
    let x = c.slot_at-x.result in
    omega (arith, eqb-false x 65535 (neither (eqb x 65535) _ c.if-x-h.false).0)

pub loop-i-preserved : goal.loop-i-preserved
loop-i-preserved c = (
  passed_more _ _ _ _ c.loop-i.invariant.0 c.loop-i-test.true (block_test _ _ c.args.h (row_at _ _) _ _ _ _ _ c.slot_at-x.ensures c.requires.judged.home (set_held c.requires.set_at) c.loop-i-test.true c.loop-i.invariant.1 c.elsewhere.ensures) c.if-x-h.false,
  lowest_more _ _ _ c.slot_at-x.ensures,
)

pub returns : goal.returns
returns c = some_end _ _ _ c.loop-i.invariant.0 c.loop-i-test.false

pub loop-i-init : goal.loop-i-init
loop-i-init c = (passed_start _ _, lowest_start _)
