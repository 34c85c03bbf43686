-- `salvager::filling::copy_numbers` puts one number after another: after i of them the others are left.
use Rattle.salvager.proofs.Copied.{Copied}
use Rattle.salvager.proofs.filling.copy_numbers.Given as goal

abbrev pub invariant-loop-i : goal.invariant-loop-i
invariant-loop-i l = Copied l.initial.list 0 l.whys 0 l.n l.list l.i
