-- `finder::passes::pass`: one edge after another (`Passing`).
use Rattle.paper.specs.Files.{case_of}
use Rattle.finder.specs.Scopes.{fact_by}
use Rattle.finder.proofs.Passing.{Passing}
use Rattle.finder.proofs.passes.pass.Given as goal

abbrev pub invariant-loop-i : goal.invariant-loop-i
invariant-loop-i l = Passing (case_of l.file l.trailer) (fact_by l.file l.trailer l.q) l.initial.table l.i l.table l.changed
