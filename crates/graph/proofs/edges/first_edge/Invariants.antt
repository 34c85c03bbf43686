-- The loop stops at the least edge that its mark does not allow (`Passed`, `edge_at`).
use Rattle.paper.specs.Files.{case_of}
use Rattle.paper.proofs.Least.{Passed}
use Rattle.graph.specs.Marks.{edge_rule}
use Rattle.graph.proofs.edges.first_edge.Given as goal

abbrev pub invariant-loop-i : goal.invariant-loop-i
invariant-loop-i l = Passed (edge_rule (case_of l.file l.trailer) l.rule) l.trailer.edges l.i
