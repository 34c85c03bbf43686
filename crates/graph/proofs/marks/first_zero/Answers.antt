-- The loop stops at the least 0; before it there was none (`Passed`).
use mathlib.Core.Path.{refl, sym}
use mathlib.Core.Bool.{true}
use borrow.Author.Tests.{eq-eqb}
use Rattle.layout.proofs.FirstLaws.{first_found, first_end}
use Rattle.graph.proofs.marks.first_zero.Goals as goal

pub returns-then-table-v-eq0 : goal.returns-then-table-v-eq0
returns-then-table-v-eq0 c =
    first_found _ _ _ c.loop-v.invariant true c.loop-v-test.true (sym (eq-eqb _ _ c.if-table-v-eq0.true)) refl

pub returns : goal.returns
returns c = first_end _ _ _ c.loop-v.invariant c.loop-v-test.false
