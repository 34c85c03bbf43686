-- `gather::rows::opened`: the one comparison decides.
use mathlib.Core.Path.{refl}
use borrow.Author.Tests.{eq-eqb, ne_eqb}
use Rattle.search.specs.Steps.{opened}
use Rattle.gather.proofs.rows.opened.Goals as goal

pub returns-then-s-eq-UNFETCHED : goal.returns-then-s-eq-UNFETCHED
unfolding opened
returns-then-s-eq-UNFETCHED c = rw (eq-eqb _ _ c.if-s-eq-UNFETCHED.true) c.plain.ensures

pub returns-else-s-eq-UNFETCHED : goal.returns-else-s-eq-UNFETCHED
unfolding opened
returns-else-s-eq-UNFETCHED c = rw (ne_eqb _ _ c.if-s-eq-UNFETCHED.false) refl
