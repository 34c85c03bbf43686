-- Version 1 has no W; in version 2 a laid-out file has its bytes, since loop after loop ends before the facts begin.
use mathlib.Core.Path.{sym, ◌∙◌}
use Rattle.paper.specs.Files.{loop_at}
use Rattle.paper.proofs.LoopSizes.{visits_without, visits_with}
use Rattle.layout.proofs.sections.visits_at.Goals as goal

pub returns-then-trailer-eq-WITHOUT_W : goal.returns-then-trailer-eq-WITHOUT_W
unfolding loop_at
returns-then-trailer-eq-WITHOUT_W c = sym (visits_without _ _ c.if-trailer-eq-WITHOUT_W.true)

pub returns : goal.returns
unfolding loop_at
returns c = (rw c.loop_place.ensures at c.u32_at.ensures) ∙ sym (visits_with _ _ c.if-trailer-eq-WITHOUT_W.false)
