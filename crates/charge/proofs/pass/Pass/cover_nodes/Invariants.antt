-- The chain has every node of b's bucket from the last to the first, so what it passes over does not fetch b.
use Rattle.paper.specs.Files.{case_of}
use Rattle.charge.proofs.Following.{Following}
use Rattle.charge.proofs.pass.Pass.cover_nodes.Given as goal

abbrev pub invariant-loop-c : goal.invariant-loop-c
invariant-loop-c l = Following (case_of l.self.of.file.now l.self.of.trailer) l.h.range l.h.block l.h.limit l.initial.cover l.cover l.n l.c

abbrev pub decreases-loop-c : goal.decreases-loop-c
decreases-loop-c l = l.c
