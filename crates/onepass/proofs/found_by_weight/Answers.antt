-- `onepass::found_by_weight`: the last set is held apart, an access keeps what holds of the pass, and the shift is always one that some weight gives.
use Prim.Native.Nat.{ℕ}
use native.Mathlib.Omega.{arith}
use mathlib.Core.Path.{◌≡◌, sym, ap, ◌∙◌}
use lib.ListN.{get_or}
use Rattle.lines.specs.Lines.{weighed}
use Rattle.paper.specs.declared.Shift.{Shift}
use Rattle.paper.specs.Machines.{step}
use Rattle.paper.specs.Shifts.{shift_at}
use Rattle.runs.proofs.Going.{access_is, no_none}
use Rattle.onepass.proofs.Passing.{Turned, passing_start, stays, turns, passing_ready, weight_low, passing_more, passing_end}
use Rattle.onepass.proofs.found_by_weight.Goals as goal
use Rattle.onepass.proofs.found_by_weight.Goals.{then-at-last, else-at-last}

-- a shift is the one that its own weight gives
shift-known : (t : Shift) {w : ℕ} → t ≡ shift_at 8 w → t ≡ shift_at 8 t.weight
shift-known t e = e ∙ ap (shift_at 8) (sym (ap (λ (x : Shift). x.weight) e))

pub lru-t-requires : goal.lru-t-requires
lru-t-requires c =
    let h = access_is c.requires c.loop-b-test.true c.of-all.ensures c.home-at.ensures.value c.home-at.ensures.upper_bound in
    let u : Turned c.args.sets c.args.blocks.now c.loop-b.found c.if-at-last.states c.if-at-last.last c.if-at-last.state c.loop-b.b-index =
    elim c.if-at-last.branch [ then-at-last w ↦ turns c.loop-b.invariant.passing h w.if-at-last.true w.states-is w.state-is w.last-is | else-at-last w ↦ stays c.loop-b.invariant.passing h w.if-at-last.false w.states-is w.state-is w.last-is ] in
    record { ready = passing_ready c.requires u; block_nonzero = no_none c.requires u.access.within; shift_value = c.shift-n.ensures }

pub bounds-found-w : goal.bounds-found-w
bounds-found-w c =
    let h = access_is c.requires c.loop-b-test.true c.of-all.ensures c.home-at.ensures.value c.home-at.ensures.upper_bound in
    let u : Turned c.args.sets c.args.blocks.now c.loop-b.found c.if-at-last.states c.if-at-last.last c.if-at-last.state c.loop-b.b-index =
    elim c.if-at-last.branch [ then-at-last w ↦ turns c.loop-b.invariant.passing h w.if-at-last.true w.states-is w.state-is w.last-is | else-at-last w ↦ stays c.loop-b.invariant.passing h w.if-at-last.false w.states-is w.state-is w.last-is ] in
    let e : c.shift-n.result.weight ≡ weighed c.if-at-last.state.lines (get_or c.args.blocks.now c.loop-b.b-index 0) = ap (λ (x : Shift). x.weight) c.shift-n.ensures in
    omega (arith, weight_low c.requires u _ e, c.loop-b.invariant.passing.counts.weights)

pub loop-b-preserved : goal.loop-b-preserved
unfolding step
loop-b-preserved c =
    let h = access_is c.requires c.loop-b-test.true c.of-all.ensures c.home-at.ensures.value c.home-at.ensures.upper_bound in
    let u : Turned c.args.sets c.args.blocks.now c.loop-b.found c.if-at-last.states c.if-at-last.last c.if-at-last.state c.loop-b.b-index =
    elim c.if-at-last.branch [ then-at-last w ↦ turns c.loop-b.invariant.passing h w.if-at-last.true w.states-is w.state-is w.last-is | else-at-last w ↦ stays c.loop-b.invariant.passing h w.if-at-last.false w.states-is w.state-is w.last-is ] in
    let e : c.shift-n.result.weight ≡ weighed c.if-at-last.state.lines (get_or c.args.blocks.now c.loop-b.b-index 0) = ap (λ (x : Shift). x.weight) c.shift-n.ensures in
    record { passing = passing_more c.requires u _ e c.lru-t.result c.lru-t.ensures; known = shift-known _ c.shift-n.ensures }

pub loop-b-init : goal.loop-b-init
loop-b-init c = record { passing = passing_start; known = shift-known _ c.shift_of-shift.ensures }

pub bounds-found-w-in-loop-b : goal.bounds-found-w-in-loop-b
bounds-found-w-in-loop-b c =
    let h = access_is c.requires c.loop-b-test.true c.of-all.ensures c.home-at.ensures.value c.home-at.ensures.upper_bound in
    let u : Turned c.args.sets c.args.blocks.now c.loop-b.found c.if-at-last.states c.if-at-last.last c.if-at-last.state c.loop-b.b-index =
    elim c.if-at-last.branch [ then-at-last w ↦ turns c.loop-b.invariant.passing h w.if-at-last.true w.states-is w.state-is w.last-is | else-at-last w ↦ stays c.loop-b.invariant.passing h w.if-at-last.false w.states-is w.state-is w.last-is ] in
    let e : c.shift-n.result.weight ≡ weighed c.if-at-last.state.lines (get_or c.args.blocks.now c.loop-b.b-index 0) = ap (λ (x : Shift). x.weight) c.shift-n.ensures in
    omega (arith, weight_low c.requires u _ e, c.loop-b.invariant.passing.counts.weights)

pub returns : goal.returns
returns c = passing_end c.loop-b.invariant.passing (omega arith)
