-- `patterns::binary` puts one digit after another: after the bit i those below it are left.
use Prim.Native.Nat.{◌≤◌}
use Rattle.paper.specs.Patterns.{binary}
use Rattle.puts.proofs.Putting.{Left}
use Rattle.patterns.proofs.binary.Given as goal

abbrev pub invariant-loop-i : goal.invariant-loop-i
invariant-loop-i l = (Left l.initial.out l.at (binary l.bits l.w) l.out l.to (binary l.bits l.i)) × (l.i ≤ 8)
