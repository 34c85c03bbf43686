-- The lines looked at do not hold the block (`stands_on`); one that does ends the look.
use Prim.Native.Nat.{◌≤◌}
use mathlib.Core.Path.{◌≡◌}
use lib.ListN.{drop}
use Rattle.paper.specs.Machines.{stands}
use Rattle.machine.proofs.legality.stands_from.Given as goal

abbrev pub invariant-loop-i : goal.invariant-loop-i
invariant-loop-i l = (l.i ≤ 8) × (stands (drop l.from l.lines) l.b ≡ stands (drop l.i l.lines) l.b)
