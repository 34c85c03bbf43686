-- Both rows rise, so what has been passed over in s can stand no more in what is left of r (`Merged`).
use native.Mathlib.Omega.{arith}
use Rattle.evidence.proofs.Slots.{set_held}
use Rattle.evidence.proofs.Sets.{merged_start, merged_at, merged_above, merged_skip, merged_same, merged_end, merged_last}
use Rattle.evidence.proofs.steps.drops.Goals as goal
use Rattle.evidence.proofs.steps.drops.Goals.{then-x-y-2, else-x-y-2}

pub returns-then-n-i : goal.returns-then-n-i
returns-then-n-i c = merged_end _ _ _ _ _ _ c.loop-j.invariant c.if-n-i.true

pub returns-then-x-y : goal.returns-then-x-y
returns-then-x-y c =
    let p = c.requires.rising_at_2 in
    merged_above _ _ _ _ (set_held p.set) _ _ c.loop-j.invariant (omega arith)
    c.loop-j-test.true _ _ c.slot_at-x.ensures c.slot_at-y.ensures p.rises c.if-x-y.true

pub loop-j-preserved : goal.loop-j-preserved
loop-j-preserved c =
    let e = set_held c.requires.rising_at_2.set in
    elim c.if-x-y-2.branch [
      | then-x-y-2 w ↦ merged_at _ _ _ _ _ _ _ w.i-is
          (merged_same _ _ _ _ e _ _ c.loop-j.invariant (omega arith) c.loop-j-test.true _ _ c.slot_at-x.ensures c.slot_at-y.ensures c.requires.rising_at.rises w.if-x-y-2.true)
      | else-x-y-2 w ↦ merged_at _ _ _ _ _ _ _ w.i-is
          (merged_skip _ _ _ _ e _ _ c.loop-j.invariant (omega arith) c.loop-j-test.true _ _ c.slot_at-x.ensures c.slot_at-y.ensures (λ z. absurd (omega arith)) w.if-x-y-2.false)
    ]

pub returns : goal.returns
returns c = merged_last _ _ _ _ _ _ (set_held c.requires.rising_at_2.set) c.loop-j.invariant c.loop-j-test.false

pub loop-j-init : goal.loop-j-init
loop-j-init c = merged_start _ _ _ _
