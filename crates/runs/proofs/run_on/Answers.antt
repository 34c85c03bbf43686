-- `runs::run_on`: the last set is held apart, and an access keeps what holds of such a run.
use Prim.Native.Nat.{ℕ}
use native.Mathlib.Omega.{arith}
use mathlib.Core.Path.{refl, ap, ◌∙◌}
use lib.ListN.{get_or}
use Rattle.paper.specs.Machines.{step}
use Rattle.runs.proofs.Going.{access_is, going_end}
use Rattle.runs.proofs.Apart.{Turned, apart_start, stays, turns, apart_stands, apart_more}
use Rattle.runs.proofs.run_on.Goals as goal
use Rattle.runs.proofs.run_on.Goals.{then-at-last, else-at-last}

pub loop-i-init : goal.loop-i-init
loop-i-init g c = record { apart = apart_start c.requires; ways = refl }

-- the set that is held apart is that of the access
pub step-t-requires : goal.step-t-requires
step-t-requires g c =
    let p = c.requires in
    let a = c.loop-i.invariant.apart in
    let h = access_is p c.loop-i-test.true c.of-all.ensures c.home-at.ensures.value c.home-at.ensures.upper_bound in
    let u : Turned g.M.Machine.policy (g.M.Machine.ways c.args.machine.now) c.args.sets c.args.blocks.now c.args.marks.now c.loop-i.marks c.if-at-last.states c.if-at-last.last c.if-at-last.state c.loop-i.misses c.loop-i.i =
    elim c.if-at-last.branch [ then-at-last w ↦ turns p a h w.if-at-last.true w.states-is w.state-is w.last-is | else-at-last w ↦ stays p a h w.if-at-last.false w.states-is w.state-is w.last-is ] in
    rw c.loop-i.invariant.ways (apart_stands p u)

pub loop-i-preserved : goal.loop-i-preserved
loop-i-preserved g c =
    let p = c.requires in
    let a = c.loop-i.invariant.apart in
    let h = access_is p c.loop-i-test.true c.of-all.ensures c.home-at.ensures.value c.home-at.ensures.upper_bound in
    let u : Turned g.M.Machine.policy (g.M.Machine.ways c.args.machine.now) c.args.sets c.args.blocks.now c.args.marks.now c.loop-i.marks c.if-at-last.states c.if-at-last.last c.if-at-last.state c.loop-i.misses c.loop-i.i =
    elim c.if-at-last.branch [ then-at-last w ↦ turns p a h w.if-at-last.true w.states-is w.state-is w.last-is | else-at-last w ↦ stays p a h w.if-at-last.false w.states-is w.state-is w.last-is ] in
    let m = c.mark_of-m in
    let t = c.step-t in
    record {
      apart = apart_more p u t.result (t.ensures.value ∙ ap (λ (k : ℕ). step g.M.Machine.policy k c.if-at-last.state (get_or c.args.blocks.now c.loop-i.i 0)) c.loop-i.invariant.ways) _ m.ensures.value m.ensures.upper_bound;
      ways = t.ensures.ways_after ∙ c.loop-i.invariant.ways;
    }

pub returns : goal.returns
returns g c = going_end c.requires c.loop-i.invariant.apart.going (omega arith)
