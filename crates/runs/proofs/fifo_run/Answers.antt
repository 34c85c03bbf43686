-- `runs::fifo_run`: an access keeps what holds of a run; a hit changes nothing, so only a miss is stored.
use Prim.Native.Nat.{◌<◌}
use native.Mathlib.Omega.{arith}
use mathlib.Core.Path.{refl, sym, ap, ◌∙◌}
use lib.ListN.{length, get_or}
use borrow.Author.Tests.{not-false}
use Rattle.paper.specs.declared.SetState.{SetState}
use Rattle.paper.specs.Machines.{step}
use Rattle.paper.specs.Policies.{fifo_policy}
use Rattle.runs.specs.TraceRuns.{held}
use Rattle.runs.proofs.Going.{few_ways, access_is, going_start, going_more, going_end, set_ready, no_none}
use Rattle.runs.proofs.Held.{Stored, stored, unchanged, held_at, held_empty, fifo_same}
use Rattle.runs.proofs.fifo_run.Goals as goal
use Rattle.runs.proofs.fifo_run.Goals.{then-not-t, else-not-t}

pub fifo-t-requires : goal.fifo-t-requires
fifo-t-requires c =
    let p = c.requires in
    let e = held_at c.loop-i.states c.home-at.result (omega (arith, c.loop-i.invariant.long, c.home-at.ensures.upper_bound)) in
    record { ready = set_ready p c.loop-i.invariant.going _ _ e; block_nonzero = no_none p c.loop-i-test.true; beyond_value = c.kept_from-beyond.ensures }

pub loop-i-preserved : goal.loop-i-preserved
unfolding step
loop-i-preserved c =
    let t = c.fifo-t in
    let m = c.mark_of-m in
    let b = get_or c.args.blocks.now c.loop-i.i 0 in
    let low : c.home-at.result < length c.loop-i.states = omega (arith, c.loop-i.invariant.long, c.home-at.ensures.upper_bound) in
    let h = access_is c.requires c.loop-i-test.true c.of-all.ensures c.home-at.ensures.value c.home-at.ensures.upper_bound in
    let k : Stored c.loop-i.states c.home-at.result t.result.state c.if-not-t.states =
    elim c.if-not-t.branch [
      | then-not-t w ↦ stored _ _ _ _ low w.states-is
      | else-not-t w ↦ unchanged _ _ _ _ low w.states-is (fifo_same _ _ _ _ t.ensures (not-false _ w.if-not-t.false))
    ] in
    record {
      going =
          going_more c.requires c.loop-i.invariant.going h t.result (t.ensures ∙ ap (λ (s : SetState). step fifo_policy c.args.k s b) (sym (held_at _ _ low)))
          (held c.if-not-t.states) k.here k.there _ m.ensures.value m.ensures.upper_bound;
      long = k.long ∙ c.loop-i.invariant.long;
    }

pub kept_from-beyond-requires : goal.kept_from-beyond-requires
kept_from-beyond-requires c = few_ways c.requires

pub loop-i-init : goal.loop-i-init
loop-i-init c = record { going = going_start c.requires _ (λ q. held_empty 64 q); long = refl }

pub returns : goal.returns
returns c = going_end c.requires c.loop-i.invariant.going (omega arith)
