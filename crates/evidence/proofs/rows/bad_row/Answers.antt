-- One branch for each thing that a row's number can be, with the part of the test that is left (OneRow).
use mathlib.Core.Path.{◌∙◌}
use native.Mathlib.Omega.{arith}
use Rattle.evidence.proofs.OneRow.{row_high, row_other, row_long, row_block, row_set}
use Rattle.evidence.proofs.Scopes.{row_is, limit_low, limit_high}
use Rattle.evidence.proofs.rows.bad_row.Goals as goal

pub returns-then-n-gt-UNFETCHED : goal.returns-then-n-gt-UNFETCHED
returns-then-n-gt-UNFETCHED c =
    row_high _ _ _ _ c.number_at-n.ensures c.if-n-gt-UNFETCHED.true ∙ row_is _ _ _ _ _ c.row_at-at.ensures.value

pub returns-then-n-ge-MANY : goal.returns-then-n-ge-MANY
returns-then-n-ge-MANY c =
    row_other _ _ _ _ c.number_at-n.ensures _ c.if-n-ge-MANY.true (omega arith) c.bad_rest.ensures
    ∙ row_is _ _ _ _ _ c.row_at-at.ensures.value

pub returns-then-h-n : goal.returns-then-h-n
returns-then-h-n c =
    row_long _ _ _ _ c.number_at-n.ensures (omega arith) (limit_low _ _ _ c.requires.stands _ c.if-h-n.true)
    ∙ row_is _ _ _ _ _ c.row_at-at.ensures.value

pub returns-then-bad_blocks : goal.returns-then-bad_blocks
returns-then-bad_blocks c =
    row_block _ _ _ _ c.number_at-n.ensures (omega arith) (limit_high _ _ _ c.requires.stands _ c.if-h-n.false) _
    c.bad_blocks.ensures c.if-bad_blocks.true
    ∙ row_is _ _ _ _ _ c.row_at-at.ensures.value

pub returns : goal.returns
returns c =
    row_set _ _ _ _ c.number_at-n.ensures (omega arith) (limit_high _ _ _ c.requires.stands _ c.if-h-n.false) _
    c.bad_blocks.ensures _ c.if-bad_blocks.false c.bad_rest-2.ensures
    ∙ row_is _ _ _ _ _ c.row_at-at.ensures.value
