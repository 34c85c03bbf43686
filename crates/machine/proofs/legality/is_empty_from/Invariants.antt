-- The lines looked at are empty (`empty_on`); one that is not ends the look.
use Prim.Native.Nat.{◌≤◌}
use mathlib.Core.Path.{◌≡◌}
use lib.ListN.{drop}
use Rattle.paper.specs.Machines.{empty}
use Rattle.machine.proofs.legality.is_empty_from.Given as goal

abbrev pub invariant-loop-i : goal.invariant-loop-i
invariant-loop-i l = (l.i ≤ 8) × (empty (drop l.from l.lines) ≡ empty (drop l.i l.lines))
