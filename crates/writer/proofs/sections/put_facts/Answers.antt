-- `writer::sections::put_facts`: a fact after another; r counts the rows before it.
use mathlib.Core.Path.{refl}
use native.Mathlib.Omega.{arith}
use borrow.Author.Rules.{rules}
use Rattle.paper.specs.Lists.{sum_to}
use Rattle.paper.specs.Writing.{rows_named}
use Rattle.writer.proofs.Joined.{joined_start, joined_more, named_more, rows_there}
use Rattle.writer.proofs.sections.put_facts.Goals as goal

pub loop-i-init : goal.loop-i-init
unfolding sum_to
loop-i-init c = (joined_start, refl, omega arith)

pub put_fact-to-requires : goal.put_fact-to-requires
put_fact-to-requires c =
    let there = rows_there _ _ _ c.requires.facts_fit _ _ c.loop-i.invariant.1 c.loop-i-test.true in
    record { per_head_in_bounds = search rules; r_value = c.loop-i.invariant.1; i_in_bounds = there; i_in_bounds_2 = omega (arith, there, c.requires.rows_in_bounds, c.loop-i.invariant.2, c.loop-i.invariant.0.kept, c.loop-i-test.true) }

pub loop-i-preserved : goal.loop-i-preserved
unfolding rows_named
loop-i-preserved c =
    let a = c.args in (
      joined_more c.loop-i.invariant.0 c.put_fact-to.ensures.put,
      named_more a.heads.now a.rows.now c.loop-i.i c.loop-i.r _ c.loop-i.invariant.1 refl,
      omega (arith, c.loop-i.invariant.2, c.put_fact-to.ensures.value),
    )
