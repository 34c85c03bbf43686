-- `lines::weight_at`: the comparison decides, and either way the result is within the weight.
use native.Mathlib.Omega.{arith}
use borrow.Author.Tests.{eq-eqb, ne_eqb}
use Rattle.lines.proofs.weight_at.Goals as goal

pub returns-then-x-b : goal.returns-then-x-b
returns-then-x-b c =
    record { value = rw (eq-eqb _ _ c.if-x-b.true); upper_bound = omega arith }

pub returns-else-x-b : goal.returns-else-x-b
returns-else-x-b c =
    record { value = rw (ne_eqb _ _ c.if-x-b.false); upper_bound = omega arith }
