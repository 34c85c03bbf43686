-- The loop stops at the least 0; before it there was none (`Passed`).
use lib.Dec.{eqb}
use lib.ListN.{get_or}
use Rattle.paper.proofs.Least.{Passed}
use Rattle.graph.proofs.marks.first_zero.Given as goal

abbrev pub invariant-loop-v : goal.invariant-loop-v
invariant-loop-v l = Passed (λ k. eqb (get_or l.table k 0) 0) l.n l.v
