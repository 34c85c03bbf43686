-- `frames::numbers::put` puts the least byte first: after it the bytes of the number divided by 256 are left.
use Prim.Native.Nat.{◌-◌}
use Rattle.puts.proofs.Putting.{Left}
use Rattle.frames.specs.Little.{little}
use Rattle.frames.proofs.numbers.put.Given as goal

abbrev pub invariant-loop-to : goal.invariant-loop-to
invariant-loop-to l = Left l.initial.out l.at (little l.width l.x) l.out l.to (little (l.end - l.to) l.rest)
