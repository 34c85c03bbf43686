-- The table holds the marks of the first i edges (`Marks`), and an edge's turn takes its start's mark over to its end (`marks_more`).
use mathlib.Core.Path.{◌≡◌}
use lib.ListN.{length}
use Rattle.paper.specs.Files.{case_of}
use Rattle.graph.proofs.DeadMarks.{Marks}
use Rattle.graph.proofs.dead.mark_reached.Given as goal

abbrev pub invariant-loop-i : goal.invariant-loop-i
invariant-loop-i l = (length l.table ≡ length l.initial.table) × Marks (case_of l.file l.trailer) l.i l.table
