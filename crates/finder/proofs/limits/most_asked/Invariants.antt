-- `finder::limits::most_asked`: a node after another (`Asking`).
use Rattle.paper.specs.Files.{case_of}
use Rattle.finder.specs.Scopes.{fact_by}
use Rattle.finder.proofs.Passing.{Asking}
use Rattle.finder.proofs.limits.most_asked.Given as goal

abbrev pub invariant-loop-j : goal.invariant-loop-j
invariant-loop-j l = Asking (case_of l.file l.trailer) (fact_by l.file l.trailer l.q) l.table l.j-end l.j l.most
