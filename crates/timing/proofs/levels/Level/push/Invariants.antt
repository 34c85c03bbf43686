-- The table has what comes before each node after the first i edges (`Numbered`), and an edge's turn takes its start's number over to its end (`numbered_more`).
use Rattle.paper.specs.Files.{case_of}
use Rattle.timing.specs.Ready.{entry}
use Rattle.timing.specs.Numbered.{Numbered}
use Rattle.timing.proofs.levels.Level.push.Given as goal

abbrev pub invariant-loop-i : goal.invariant-loop-i
invariant-loop-i l =
    let s = l.self in
    Numbered (case_of s.of.file.now s.of.trailer) (entry s.of.costs.now) s.times.now s.k l.first l.i l.table
