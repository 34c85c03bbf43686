-- A node that does not fetch b is never at fault; of one that does, its row's number tells.
use mathlib.Core.Path.{refl}
use Rattle.paper.specs.Facts.{bad_many_at}
use Rattle.evidence.proofs.bad_many.Goals as goal

pub returns-then-fetches : goal.returns-then-fetches
unfolding bad_many_at
returns-then-fetches c =
    rw (← c.fetches.ensures, c.if-fetches.true, c.number_at.ensures, c.row_at.ensures.value) refl

pub returns-else-fetches : goal.returns-else-fetches
unfolding bad_many_at
returns-else-fetches c = rw (← c.fetches.ensures, c.if-fetches.false) refl
