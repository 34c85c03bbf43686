-- `lines::replaced_at`: the comparison decides.
use borrow.Author.Tests.{eq-eqb, ne_eqb}
use Rattle.lines.proofs.replaced_at.Goals as goal

pub returns-then-bit-own : goal.returns-then-bit-own
returns-then-bit-own c = rw (eq-eqb _ _ c.if-bit-own.true)

pub returns-else-bit-own : goal.returns-else-bit-own
returns-else-bit-own c = rw (ne_eqb _ _ c.if-bit-own.false)
