-- `trace::trace_run`: the refusals are asked for in the paper's order, and each answer fixes the result and the lent bytes.
use native.Mathlib.Omega.{arith}
use mathlib.Core.Path.{sym, ◌∙◌}
use Rattle.runs.proofs.Going.{runs_at, ran_at}
use Rattle.trace.proofs.Refusals.{not_offered, no_count, ranged, outcome, refused, run_3, run_20, run_21, run_took, runs}
use Rattle.trace.proofs.trace_run.Goals as goal

pub returns-in_default : goal.returns-in_default
returns-in_default c =
    let r = refused _ _ _ _ _ _ _ _ c.refuse.ensures (run_3 _ _ _ _ _ (not_offered _ _ _ c.in_default.ensures)) in
    record { value = r.0; marks_after = r.1 }

pub returns-then-not-is_set_count : goal.returns-then-not-is_set_count
returns-then-not-is_set_count c =
    let s = no_count _ _ _ c.in-Some.ensures.1 (sym c.is_set_count.ensures ∙ c.if-not-is_set_count.true) in
    let r = refused _ _ _ _ _ _ _ _ c.refuse-then-not-is_set_count.ensures (run_3 _ _ _ _ _ s) in
    record { value = r.0; marks_after = r.1 }

pub returns-then-marks-blocks : goal.returns-then-marks-blocks
returns-then-marks-blocks c =
    let s = ranged _ _ _ c.in-Some.ensures.1 (sym c.if-not-is_set_count.ensures) in
    let r = refused _ _ _ _ _ _ _ _ c.refuse-then-marks-blocks.ensures (run_20 _ _ _ _ _ s c.if-marks-blocks.true) in
    record { value = r.0; marks_after = r.1 }

pub returns-then-at-blocks : goal.returns-then-at-blocks
returns-then-at-blocks c =
    let s = ranged _ _ _ c.in-Some.ensures.1 (sym c.if-not-is_set_count.ensures) in
    let r = refused _ _ _ _ _ _ _ _ c.refuse-then-at-blocks.ensures (run_21 _ _ _ _ _ s c.if-marks-blocks.false _ c.bad_access-at.ensures (omega (arith, c.if-at-blocks.true))) in
    record { value = r.0; marks_after = r.1 }

pub run-misses-requires : goal.run-misses-requires
run-misses-requires c =
    let s = ranged _ _ _ c.in-Some.ensures.1 (sym c.if-not-is_set_count.ensures) in
    runs_at (sym c.in-Some.ensures.0) (runs _ _ _ _ _ s c.if-marks-blocks.false _ c.bad_access-at.ensures c.if-at-blocks.false)

pub returns : goal.returns
returns c =
    let s = ranged _ _ _ c.in-Some.ensures.1 (sym c.if-not-is_set_count.ensures) in
    let r = outcome _ _ _ _ _ _ _ (run_took _ _ _ _ _ s c.if-marks-blocks.false _ c.bad_access-at.ensures c.if-at-blocks.false _ _ (ran_at c.in-Some.ensures.0 c.run-misses.ensures)) in
    record { value = r.0; marks_after = r.1 }
