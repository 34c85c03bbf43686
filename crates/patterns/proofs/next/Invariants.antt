-- `patterns::next` puts the next bits for one line after another.
use Prim.Native.Nat.{◌-◌}
use Rattle.paper.specs.Patterns.{next_from}
use Rattle.puts.proofs.Putting.{Left}
use Rattle.patterns.specs.Shown.{after_of}
use Rattle.patterns.proofs.next.Given as goal

abbrev pub invariant-loop-j : goal.invariant-loop-j
invariant-loop-j l =
    Left l.initial.out l.at (next_from (after_of l.tree l.k l.p) l.w 0 l.k) l.out l.to (next_from (after_of l.tree l.k l.p) l.w l.j (l.k - l.j))
