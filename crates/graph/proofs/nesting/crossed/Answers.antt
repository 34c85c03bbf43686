-- The loop stops at the least earlier loop that is crossed (`Passed`).
use mathlib.Core.Path.{◌∙◌, ap}
use Rattle.paper.specs.declared.Loop.{Loop}
use Rattle.paper.specs.Graphs.{crosses}
use Rattle.paper.proofs.Least.{some_found, some_end}
use Rattle.graph.specs.Wide.{as_loop}
use Rattle.graph.proofs.nesting.crossed.Goals as goal

pub returns-then-crosses : goal.returns-then-crosses
returns-then-crosses g c =
    some_found _ _ _ c.loop-j.invariant _ c.loop-j-test.true (c.crosses.ensures ∙ ap (λ (l : Loop). crosses l (as_loop c.args.l)) c.loop_at.ensures) c.if-crosses.true

pub returns : goal.returns
returns g c = some_end _ _ _ c.loop-j.invariant c.loop-j-test.false
