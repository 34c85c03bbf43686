-- `evidence::steps::breaks`: each return is one branch of the rule; where the rows are the same only the block that u fetches is asked for.
use native.Mathlib.Omega.{arith}
use Rattle.evidence.proofs.OneRow.{number_at, rising_at}
use Rattle.evidence.proofs.OneEdge.{breaks_b, breaks_not_since, breaks_many, breaks_no_set, breaks_same, breaks_lost, breaks_drops}
use Rattle.evidence.proofs.steps.breaks.Goals as goal

pub returns-then-x-h : goal.returns-then-x-h
returns-then-x-h c =
    breaks_b _ _ _ c.requires.stands _ _ _ _ _ c.row_at-s.ensures.value c.number_at-m.ensures c.if-x-h.true

pub returns-then-n-eq-UNFETCHED : goal.returns-then-n-eq-UNFETCHED
returns-then-n-eq-UNFETCHED c =
    breaks_not_since _ _ _ c.requires.stands _ _ _ _ _ c.row_at-s.ensures.value c.number_at-m.ensures c.if-x-h.false _ _
    c.row_at-r.ensures.value c.number_at-n.ensures c.if-n-eq-UNFETCHED.true

pub returns-then-n-eq-MANY : goal.returns-then-n-eq-MANY
returns-then-n-eq-MANY c =
    breaks_many _ _ _ c.requires.stands _ _ _ _ _ c.row_at-s.ensures.value c.number_at-m.ensures c.if-x-h.false _ _
    c.row_at-r.ensures.value c.number_at-n.ensures c.if-n-eq-UNFETCHED.false c.if-n-eq-MANY.true

pub returns-then-m-ge-MANY : goal.returns-then-m-ge-MANY
returns-then-m-ge-MANY c =
    breaks_no_set _ _ _ c.requires.stands _ _ _ _ _ c.row_at-s.ensures.value c.number_at-m.ensures c.if-x-h.false _ _
    c.row_at-r.ensures.value c.number_at-n.ensures c.if-n-eq-UNFETCHED.false c.if-n-eq-MANY.false c.if-m-ge-MANY.true

pub returns-then-same_row : goal.returns-then-same_row
returns-then-same_row c =
    let l = number_at _ _ _ c.requires.sound_rows _ _ _ c.requires.i_bound.0 c.row_at-r.ensures.value c.number_at-n.ensures in
    breaks_same _ _ _ c.requires.stands _ _ _ _ _ c.row_at-s.ensures.value c.number_at-m.ensures c.if-x-h.false _ _
    c.row_at-r.ensures.value c.number_at-n.ensures c.if-n-eq-UNFETCHED.false c.if-n-eq-MANY.false (omega arith) _
    (c.same_row.ensures c.if-same_row.true) (omega (arith, c.if-n-eq-UNFETCHED.false, c.if-n-eq-MANY.false)) c.lost.ensures

pub returns-then-lost : goal.returns-then-lost
returns-then-lost c =
    breaks_lost _ _ _ c.requires.stands _ _ _ _ _ c.row_at-s.ensures.value c.number_at-m.ensures c.if-x-h.false _ _
    c.row_at-r.ensures.value c.number_at-n.ensures c.if-n-eq-UNFETCHED.false c.if-n-eq-MANY.false (omega arith) _
    c.lost-2.ensures c.if-lost.true

pub drops-requires : goal.drops-requires
drops-requires c =
    let l = number_at _ _ _ c.requires.sound_rows _ _ _ c.requires.i_bound.0 c.row_at-r.ensures.value c.number_at-n.ensures in
    record { rising_at = rising_at _ _ _ c.requires.sound_rows _ _ _ c.requires.i_bound.0 c.row_at-r.ensures.value c.number_at-n.ensures (omega arith) c.row_at-r.ensures.row_size_in_bounds; rising_at_2 = rising_at _ _ _ c.requires.sound_rows _ _ _ c.requires.i_bound.1 c.row_at-s.ensures.value c.number_at-m.ensures (omega arith) c.row_at-s.ensures.row_size_in_bounds }

pub returns : goal.returns
returns c =
    let l = number_at _ _ _ c.requires.sound_rows _ _ _ c.requires.i_bound.0 c.row_at-r.ensures.value c.number_at-n.ensures in
    breaks_drops _ _ _ c.requires.stands _ _ _ _ _ c.row_at-s.ensures.value c.number_at-m.ensures c.if-x-h.false _ _
    c.row_at-r.ensures.value c.number_at-n.ensures c.if-n-eq-UNFETCHED.false c.if-n-eq-MANY.false (omega arith) _ _
    c.lost-2.ensures c.if-lost.false
    (omega (arith, c.if-n-eq-UNFETCHED.false, c.if-n-eq-MANY.false)) c.drops.ensures
