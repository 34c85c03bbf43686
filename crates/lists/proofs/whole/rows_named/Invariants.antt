-- What the heads name is added, head by head.
use Prim.Native.Nat.{◌+◌, ◌*◌}
use lib.ListN.{get_or}
use Rattle.paper.proofs.Sums.{Added}
use Rattle.lists.proofs.whole.rows_named.Given as goal

abbrev pub invariant-loop-i : goal.invariant-loop-i
invariant-loop-i l = Added (λ k. get_or l.heads (4 * k + 3) 0) 65535 l.n l.sum l.i
