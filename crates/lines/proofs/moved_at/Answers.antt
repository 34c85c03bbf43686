-- `lines::moved_at`: the comparison decides.
use borrow.Author.Tests.{eq-eqb, ne_eqb}
use Rattle.lines.proofs.moved_at.Goals as goal

pub returns-then-kept-eq0 : goal.returns-then-kept-eq0
returns-then-kept-eq0 c = rw (eq-eqb _ _ c.if-kept-eq0.true)

pub returns-else-kept-eq0 : goal.returns-else-kept-eq0
returns-else-kept-eq0 c = rw (ne_eqb _ _ c.if-kept-eq0.false)
