-- Node after node, the greatest number so far.
use mathlib.Core.Path.{◌≡◌}
use Rattle.paper.specs.Lists.{highest_to}
use Rattle.paper.specs.Files.{case_of}
use Rattle.timing.specs.Pushed.{cut, number_by}
use Rattle.timing.specs.Ready.{entry}
use Rattle.timing.proofs.levels.Level.highest.Given as goal

abbrev pub invariant-loop-v : goal.invariant-loop-v
invariant-loop-v l =
    let s = l.self in
    l.most ≡ highest_to (number_by (case_of s.of.file.now s.of.trailer) (entry s.of.costs.now) (entry s.times.now) cut s.k (entry l.table)) l.v
