-- `trace::bad_access`: the first access with block none stops the loop; before it none has it.
use native.Mathlib.Omega.{arith}
use mathlib.Core.Path.{◌≡◌, refl, ◌∙◌}
use lib.ListN.{length}
use borrow.Author.Tests.{eq-eqb, ne_eqb}
use Rattle.paper.specs.Traces.{bad_access}
use Rattle.paper.proofs.Least.{passed_more, least_found, least_end}
use Rattle.trace.proofs.EightLaws.{clear_passed}
use Rattle.trace.proofs.bad_access.Goals as goal

pub loop-i-init : goal.loop-i-init
loop-i-init c = clear_passed _ _ c.passed_eights-i.ensures

pub returns-then-blocks-i : goal.returns-then-blocks-i
unfolding bad_access
returns-then-blocks-i c =
    let v = c.loop-i in
    least_found _ _ v.i _ v.invariant (omega arith) refl (eq-eqb _ _ c.if-blocks-i.true)

pub loop-i-preserved : goal.loop-i-preserved
unfolding bad_access
loop-i-preserved c =
    let v = c.loop-i in
    passed_more _ _ v.i _ v.invariant (omega arith) refl (ne_eqb _ _ c.if-blocks-i.false)

pub returns : goal.returns
returns c =
    let v = c.loop-i in
    let e : length c.args.blocks.now ≡ v.i = omega (arith, c.passed_eights-i.ensures.within) in
    e ∙ least_end _ _ v.i v.invariant (omega arith)
