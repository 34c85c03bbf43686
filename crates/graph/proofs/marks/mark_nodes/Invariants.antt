-- A table that holds the marks of the first j loops.
use mathlib.Core.Path.{◌≡◌}
use lib.ListN.{length}
use Rattle.paper.specs.Files.{case_of}
use Rattle.graph.specs.Filled.{Holds}
use Rattle.graph.specs.Marks.{marks, marked_to}
use Rattle.graph.proofs.marks.mark_nodes.Given as goal

abbrev pub invariant-loop-j : goal.invariant-loop-j
invariant-loop-j l =
    (length l.table ≡ length l.initial.table) × Holds (λ v. marked_to (marks (case_of l.file l.fn.trailer) l.rule) l.start v l.j) l.fn.trailer.nodes l.table
