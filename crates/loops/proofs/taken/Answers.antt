-- 0 is what was too large; any other number is itself.
use native.Mathlib.Omega.{arith}
use mathlib.Core.Path.{refl}
use borrow.Author.Tests.{eq-eqb, ne_eqb}
use Rattle.loops.specs.Counts.{taken}
use Rattle.loops.proofs.taken.Goals as goal

pub returns-then-visits-eq0 : goal.returns-then-visits-eq0
unfolding taken
returns-then-visits-eq0 c =
    record { value = rw (eq-eqb _ _ c.if-visits-eq0.true) refl; upper_bound = omega arith }

pub returns : goal.returns
unfolding taken
returns c =
    record { value = rw (ne_eqb _ _ c.if-visits-eq0.false) refl; upper_bound = omega arith }
