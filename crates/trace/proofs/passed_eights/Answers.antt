-- `trace::passed_eights`: eight accesses of which none has block none make the trace clear up to the next eight.
use native.Mathlib.Omega.{arith}
use mathlib.Core.Path.{sym, ◌∙◌}
use Rattle.trace.proofs.EightLaws.{clear_start, clear_more}
use Rattle.trace.proofs.passed_eights.Goals as goal

pub has_none-requires : goal.has_none-requires
has_none-requires c = omega (arith, c.loop-i.invariant.within)

pub loop-i-preserved : goal.loop-i-preserved
loop-i-preserved c =
    let v = c.loop-i in
    clear_more _ v.i v.invariant (omega (arith, v.invariant.within)) (sym c.has_none.ensures ∙ c.if-has_none.false)

pub loop-i-init : goal.loop-i-init
loop-i-init c = clear_start _

pub returns-then-has_none : goal.returns-then-has_none
returns-then-has_none c = c.loop-i.invariant

pub returns : goal.returns
returns c = c.loop-i.invariant
