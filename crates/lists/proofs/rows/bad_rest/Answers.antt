-- `lists::rows::bad_rest`: the first slot that is not free stops the loop.
use borrow.Author.Rules.{rules}
use borrow.Author.Tests.{eq-eqb, ne_eqb}
use mathlib.Core.Path.{refl, ap}
use mathlib.Core.Bool.{not}
use Rattle.paper.proofs.Least.{passed_more, some_found, some_end}
use Rattle.evidence.proofs.Slots.{unfree_before, unfree_at}
use Rattle.lists.proofs.rows.bad_rest.Goals as goal

pub loop-i-init : goal.loop-i-init
loop-i-init c = (record { within = search rules; none = unfree_before _ _ }, search rules)

pub returns-then-slot_at : goal.returns-then-slot_at
returns-then-slot_at c =
    some_found _ _ _ c.loop-i.invariant.0 _ c.loop-i-test.true
    (unfree_at _ _ c.loop-i.i _ _ c.loop-i.invariant.1 c.slot_at.ensures (ap not (ne_eqb _ _ c.if-slot_at.true))) refl

pub loop-i-preserved : goal.loop-i-preserved
loop-i-preserved c = (
  passed_more _ _ _ _ c.loop-i.invariant.0 c.loop-i-test.true
      (unfree_at _ _ c.loop-i.i _ _ c.loop-i.invariant.1 c.slot_at.ensures (ap not (eq-eqb _ _ c.if-slot_at.false))) refl,
  search rules,
)

pub returns : goal.returns
returns c = some_end _ _ _ c.loop-i.invariant.0 c.loop-i-test.false
