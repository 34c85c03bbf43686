-- The table of steps says which loop has the node, if one has it.
use mathlib.Core.Path.{ap}
use Rattle.paper.specs.declared.Loop.{Loop}
use Rattle.paper.specs.Files.{case_of}
use Rattle.timing.proofs.Looking.{first_loop, first_node}
use Rattle.timing.proofs.levels.Level.step_first.Goals as goal

pub returns-then-step-self : goal.returns-then-step-self
unfolding case_of
returns-then-step-self c =
    first_loop _ _ _ _ (c.args.self.now.ready.step _ c.requires) c.if-step-self.true _ (ap (λ (l : Loop). l.first) c.loop_at.ensures)

pub returns : goal.returns
unfolding case_of
returns c = first_node _ _ _ _ (c.args.self.now.ready.step _ c.requires) c.if-step-self.false
