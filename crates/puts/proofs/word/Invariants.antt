-- `puts::word` puts its bytes one after another: after i of them the others are left.
use Prim.Native.Nat.{◌+◌}
use lib.ListN.{drop}
use Rattle.puts.proofs.Putting.{Left}
use Rattle.puts.proofs.word.Given as goal

abbrev pub invariant-loop-i : goal.invariant-loop-i
invariant-loop-i l = Left l.initial.out l.at l.word l.out (l.at + l.i) (drop l.i l.word)
