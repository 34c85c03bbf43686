-- `finder::table::start`: one row more in each turn (`Nines`).
use Rattle.finder.proofs.Rows.{Nines}
use Rattle.finder.proofs.table.start.Given as goal

abbrev pub invariant-loop-j : goal.invariant-loop-j
invariant-loop-j l = Nines l.initial.table l.n l.j l.table
