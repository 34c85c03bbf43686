-- The loop before is carried along (`IsBefore`); it stops at the least loop at fault (`Passed`).
use native.Mathlib.Omega.{arith}
use mathlib.Core.Path.{◌∙◌, ap}
use Rattle.paper.specs.declared.Loop.{Loop}
use Rattle.paper.proofs.Least.{passed_more}
use Rattle.paper.proofs.Before.{before_more, loop_after}
use Rattle.layout.proofs.FirstLaws.{first_found, first_end}
use Rattle.graph.proofs.nesting.first_bad_loop.Goals as goal

pub returns-then-wrong_loop : goal.returns-then-wrong_loop
returns-then-wrong_loop g c =
    first_found _ _ _ c.loop-i.invariant.0 _ (omega arith) (c.wrong_loop.ensures ∙ loop_after _ _ _ _ c.loop-i.invariant.1 c.loop_at-l.ensures) c.if-wrong_loop.true

pub loop-i-preserved : goal.loop-i-preserved
loop-i-preserved g c = (
  passed_more _ _ _ _ c.loop-i.invariant.0 (omega arith) (c.wrong_loop.ensures ∙ loop_after _ _ _ _ c.loop-i.invariant.1 c.loop_at-l.ensures) c.if-wrong_loop.false,
  before_more _ _ _ (ap (λ (x : Loop). x.first) c.loop_at-l.ensures),
)

pub returns : goal.returns
returns g c = first_end _ _ _ c.loop-i.invariant.0 (omega arith)
