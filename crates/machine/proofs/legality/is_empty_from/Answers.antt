-- The lines looked at are empty (`empty_on`); one that is not ends the look.
use native.Mathlib.Omega.{arith}
use native.Mathlib.Numerals.{add-one}
use mathlib.Core.Path.{refl, sym, ◌∙◌}
use borrow.Author.Rules.{rules}
use Rattle.machine.proofs.Search.{empty_not, empty_on, empty_end}
use Rattle.machine.proofs.legality.is_empty_from.Goals as goal

pub returns-then-lines-i : goal.returns-then-lines-i
returns-then-lines-i c = sym (c.loop-i.invariant.1 ∙ empty_not c.args.lines c.loop-i.i (omega arith) c.if-lines-i.true)

pub loop-i-preserved : goal.loop-i-preserved
loop-i-preserved c = (omega arith, c.loop-i.invariant.1 ∙ rw add-one (empty_on c.args.lines c.loop-i.i (omega arith) c.if-lines-i.false))

pub returns : goal.returns
returns c = sym (c.loop-i.invariant.1 ∙ empty_end c.args.lines c.loop-i.i (omega arith))

pub loop-i-init : goal.loop-i-init
loop-i-init c = (search rules, refl)
