-- What is known of the loop: it has the count over the loops so far.
use Prim.Native.Nat.{◌≤◌}
use mathlib.Core.Path.{◌≡◌}
use lib.ListN.{length}
use Rattle.loops.specs.Counts.{count_in}
use Rattle.loops.proofs.count.Given as goal

abbrev pub invariant-loop-one : goal.invariant-loop-one
invariant-loop-one l = (l.one-index ≤ length l.loops) × (l.visits ≡ count_in l.loops l.one-index l.node)
