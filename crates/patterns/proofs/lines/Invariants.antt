-- `patterns::lines` puts one line after another: after p of them the others are left.
use Prim.Native.Nat.{◌-◌}
use Rattle.paper.specs.Patterns.{patterns_from}
use Rattle.puts.proofs.Putting.{Left}
use Rattle.patterns.specs.Shown.{line_of}
use Rattle.patterns.proofs.lines.Given as goal

abbrev pub invariant-loop-p : goal.invariant-loop-p
invariant-loop-p l = Left l.initial.out l.at (patterns_from (line_of l.tree l.k l.w) 0 l.n) l.out l.to (patterns_from (line_of l.tree l.k l.w) l.p (l.n - l.p))
