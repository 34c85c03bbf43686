-- `paper::methods::lowest_empty`: the first empty line stops the loop; before it none was empty.
use Prim.Native.Nat.{◌+◌, ◌≤◌}
use mathlib.Core.Path.{◌≡◌}
use lib.ListN.{drop}
use Rattle.paper.specs.Machines.{none, line_of}
use Rattle.paper.proofs.methods.lowest_empty.Given as goal

abbrev pub invariant-loop-i : goal.invariant-loop-i
invariant-loop-i l = (l.i ≤ 8) × (line_of l.lines none ≡ l.i + line_of (drop l.i l.lines) none)
