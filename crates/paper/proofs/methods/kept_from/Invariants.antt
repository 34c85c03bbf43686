-- `paper::methods::kept_from`: the lines from n to i-1 are marked.
use Prim.Native.Nat.{◌≤◌}
use mathlib.Core.Path.{◌≡◌}
use Rattle.paper.specs.Lists.{table}
use Rattle.paper.proofs.LineLaws.{made}
use Rattle.paper.proofs.methods.kept_from.Given as goal

abbrev pub invariant-loop-i : goal.invariant-loop-i
invariant-loop-i l = (l.n ≤ l.i) × (l.kept ≡ table (made l.n l.i) 8)
