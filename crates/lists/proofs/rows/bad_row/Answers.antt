-- `lists::rows::bad_row`: rule 16 by the row's number.
use mathlib.Core.Path.{refl}
use native.Mathlib.Omega.{arith}
use Rattle.evidence.proofs.OneRow.{row_high, row_other, row_long, row_block, row_set}
use Rattle.lists.proofs.rows.bad_row.Goals as goal

pub returns-then-n-gt-UNFETCHED : goal.returns-then-n-gt-UNFETCHED
returns-then-n-gt-UNFETCHED c = row_high _ _ _ _ refl c.if-n-gt-UNFETCHED.true

pub returns-then-n-ge-MANY : goal.returns-then-n-ge-MANY
returns-then-n-ge-MANY c = row_other _ _ _ _ refl _ c.if-n-ge-MANY.true (omega arith) c.bad_rest.ensures

pub returns-then-h-n : goal.returns-then-h-n
returns-then-h-n c = row_long _ _ _ _ refl (omega arith) c.if-h-n.true

pub returns-then-bad_blocks : goal.returns-then-bad_blocks
returns-then-bad_blocks c = row_block _ _ _ _ refl (omega arith) c.if-h-n.false _ c.bad_blocks.ensures c.if-bad_blocks.true

pub returns : goal.returns
returns c =
    row_set _ _ _ _ refl (omega arith) c.if-h-n.false _ c.bad_blocks.ensures _ c.if-bad_blocks.false c.bad_rest-2.ensures
