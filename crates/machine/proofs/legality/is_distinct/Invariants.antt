-- The lines looked at stand nowhere after themselves (`distinct_on`); one that does ends the look.
use Prim.Native.Nat.{◌≤◌}
use mathlib.Core.Path.{◌≡◌}
use lib.ListN.{drop}
use Rattle.paper.specs.Machines.{distinct}
use Rattle.machine.proofs.legality.is_distinct.Given as goal

abbrev pub invariant-loop-i : goal.invariant-loop-i
invariant-loop-i l = (l.i ≤ 8) × (distinct l.lines ≡ distinct (drop l.i l.lines))
