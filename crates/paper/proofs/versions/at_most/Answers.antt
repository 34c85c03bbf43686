-- No W leaves n; else the lesser, by one comparison.
use native.Mathlib.Omega.{arith}
use mathlib.Core.Path.{refl}
use borrow.Author.Tests.{eq-eqb, ne_eqb}
use Rattle.paper.specs.Graphs.{at_most}
use Rattle.paper.proofs.versions.at_most.Goals as goal

pub returns-then-visits-eq-UNLIMITED : goal.returns-then-visits-eq-UNLIMITED
unfolding at_most
returns-then-visits-eq-UNLIMITED c = rw (eq-eqb _ _ c.if-visits-eq-UNLIMITED.true) refl

pub returns-then-w-n : goal.returns-then-w-n
unfolding at_most
returns-then-w-n c = rw (ne_eqb _ _ c.if-visits-eq-UNLIMITED.false) (omega (arith, c.if-w-n.true))

pub returns : goal.returns
unfolding at_most
returns c = rw (ne_eqb _ _ c.if-visits-eq-UNLIMITED.false) (omega (arith, c.if-w-n.false))
