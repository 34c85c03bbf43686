-- Each set's bound is written and added; the total is the sum.
use Rattle.paper.specs.Bounds.{set_bound}
use Rattle.paper.specs.Files.{case_of}
use Rattle.paper.proofs.Sums.{Added}
use Rattle.formulas.specs.Largest.{largest_a}
use Rattle.charge.specs.Tables.{Part}
use Rattle.charge.proofs.both.Both.charge_sets.Given as goal

abbrev pub invariant-loop-q : goal.invariant-loop-q
invariant-loop-q l =
    Part (case_of l.self.of.file.now l.self.of.trailer) l.self.of.interruptions 0 l.q l.self.of.trailer.facts l.initial.numbers l.numbers × Added (set_bound (case_of l.self.of.file.now l.self.of.trailer) l.self.of.interruptions) largest_a l.self.of.trailer.sets l.total l.q
