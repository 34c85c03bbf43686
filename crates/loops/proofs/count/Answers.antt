-- Each turn is one `step`, and what is left counts on from it (`count_more`).
use Prim.Native.Nat.{ℕ}
use native.Mathlib.Omega.{arith}
use mathlib.Core.Path.{◌≡◌, sym, ◌∙◌, ap}
use mathlib.Core.Bool.{cond}
use lib.ListN.{length, get_or}
use Rattle.paper.specs.Cases.{inside}
use Rattle.loops.specs.Counts.{no_loop, stepped, count_in}
use Rattle.loops.proofs.Shown.{count_none, count_more}
use Rattle.loops.proofs.count.Goals as goal

pub loop-one-init : goal.loop-one-init
loop-one-init c = (omega arith, sym (count_none c.args.loops.now c.args.node))

pub loop-one-preserved : goal.loop-one-preserved
loop-one-preserved c =
    let l = get_or c.args.loops.now c.loop-one.one-index no_loop in (
      omega arith,
      c.step-visits.ensures
          ∙ ap (λ (k : ℕ). cond (inside l c.args.node) (stepped l k) k) c.loop-one.invariant.1
          ∙ sym (count_more c.args.loops.now c.loop-one.one-index c.args.node),
    )

pub returns : goal.returns
returns c =
    let e : c.loop-one.one-index ≡ length c.args.loops.now = omega arith in
    c.loop-one.invariant.1 ∙ ap (λ (n : ℕ). count_in c.args.loops.now n c.args.node) e
