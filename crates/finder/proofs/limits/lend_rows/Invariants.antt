-- `finder::limits::lend_rows`: a row after another (`Lending`).
use Rattle.finder.proofs.Rows.{Lending}
use Rattle.finder.proofs.limits.lend_rows.Given as goal

abbrev pub invariant-loop-j : goal.invariant-loop-j
invariant-loop-j l = Lending l.initial.rows l.table l.l l.j-end l.j l.rows
