-- Both rows rise, so what has been passed over in s can stand no more in what is left of r (`Merged`).
use Rattle.paper.specs.Files.{row_at}
use Rattle.evidence.proofs.Sets.{Merged}
use Rattle.evidence.proofs.steps.drops.Given as goal

abbrev pub invariant-loop-j : goal.invariant-loop-j
invariant-loop-j l = Merged (row_at l.file l.r) (row_at l.file l.s) l.n l.m l.i l.j
