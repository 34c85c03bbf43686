-- The lines looked at stand nowhere after themselves (`distinct_on`); one that does ends the look.
use Prim.Native.Nat.{◌<◌}
use native.Mathlib.Omega.{arith}
use native.Mathlib.Numerals.{add-one}
use mathlib.Core.Path.{refl, sym, ◌∙◌}
use lib.ListN.{length}
use borrow.Author.Rules.{rules}
use Rattle.machine.proofs.Search.{distinct_empty, distinct_on, distinct_not, distinct_end}
use Rattle.machine.proofs.legality.is_distinct.Goals as goal
use Rattle.machine.proofs.legality.is_distinct.Goals.{else-b-via-then-b+else-stands_from, else-b-via-else-b}

pub returns-then-stands_from : goal.returns-then-stands_from
returns-then-stands_from c =
    sym (c.loop-i.invariant.1 ∙ distinct_not c.args.lines c.loop-i.i (omega arith) c.if-b.true (rw add-one at (sym c.stands_from.ensures ∙ c.if-stands_from.true)))

pub loop-i-preserved : goal.loop-i-preserved
loop-i-preserved c =
    let l = c.args.lines in
    let i = c.loop-i.i in
    let h : i < length l = omega arith in (
      omega arith,
      c.loop-i.invariant.1
          ∙ rw add-one (elim c.else-b.branch [ else-b-via-then-b+else-stands_from w ↦ distinct_on l i h w.if-b.true (rw add-one at (sym w.stands_from.ensures ∙ w.if-stands_from.false)) | else-b-via-else-b w ↦ distinct_empty l i h w.if-b.false ]),
    )

pub returns : goal.returns
returns c = sym (c.loop-i.invariant.1 ∙ distinct_end c.args.lines c.loop-i.i (omega arith))

pub loop-i-init : goal.loop-i-init
loop-i-init c = (search rules, refl)
