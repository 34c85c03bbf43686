-- `evidence::steps::bad_step`: an edge that leaves the scope breaks nothing; for one that stays the rule is `breaks`.
use native.Mathlib.Omega.{arith}
use borrow.Author.Rules.{rules}
use Rattle.evidence.proofs.OneStep.{in_range_lem, step_leaves, step_in}
use Rattle.evidence.proofs.steps.bad_step.Goals as goal

pub returns-then-v-h : goal.returns-then-v-h
returns-then-v-h c =
    step_leaves _ _ _ c.requires.stands _ _ _ c.requires.from c.to_at-v.ensures c.if-v-h.true

pub overflow_sub-v : goal.overflow_sub-v
overflow_sub-v c =
    let h = c.args.h in
    omega (arith, in_range_lem h.first h.last c.to_at-v.result c.if-v-h.false)

pub breaks-requires : goal.breaks-requires
breaks-requires c =
    let h = c.args.h in
    let v = in_range_lem h.first h.last c.to_at-v.result c.if-v-h.false in
    record { ready = search rules; stands = search rules; whole = search rules; sound_rows = search rules; i_bound = omega (arith, v, c.requires.from) }

pub returns : goal.returns
returns c =
    step_in _ _ _ c.requires.stands _ _ _ c.requires.from c.to_at-v.ensures _ _ c.if-v-h.false
    c.node_at.ensures c.breaks.ensures
