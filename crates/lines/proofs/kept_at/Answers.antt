-- `lines::kept_at`: the comparison decides.
use borrow.Author.Tests.{lt-ltb, le-ltb}
use Rattle.lines.proofs.kept_at.Goals as goal

pub returns-then-least-weight : goal.returns-then-least-weight
returns-then-least-weight c = rw (lt-ltb _ _ c.if-least-weight.true)

pub returns-else-least-weight : goal.returns-else-least-weight
returns-else-least-weight c = rw (le-ltb _ _ c.if-least-weight.false)
