-- The lines looked at do not hold the block (`stands_on`); one that does ends the look.
use native.Mathlib.Omega.{arith}
use native.Mathlib.Numerals.{add-one}
use mathlib.Core.Path.{refl, sym, ◌∙◌}
use borrow.Author.Rules.{rules}
use Rattle.machine.proofs.Search.{stands_here, stands_on, stands_end}
use Rattle.machine.proofs.legality.stands_from.Goals as goal

pub returns-then-lines-i : goal.returns-then-lines-i
returns-then-lines-i c = sym (c.loop-i.invariant.1 ∙ stands_here c.args.lines c.loop-i.i (omega arith) _ c.if-lines-i.true)

pub loop-i-preserved : goal.loop-i-preserved
loop-i-preserved c = (omega arith, c.loop-i.invariant.1 ∙ rw add-one (stands_on c.args.lines c.loop-i.i (omega arith) _ c.if-lines-i.false))

pub returns : goal.returns
returns c = sym (c.loop-i.invariant.1 ∙ stands_end c.args.lines c.loop-i.i (omega arith) _)

pub loop-i-init : goal.loop-i-init
loop-i-init c = (search rules, refl)
