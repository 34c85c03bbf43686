-- Where nothing comes before the step, its number is 0; else its time is added.
use native.Mathlib.Omega.{arith}
use mathlib.Core.Path.{refl}
use Rattle.paper.specs.Files.{case_of}
use Rattle.timing.specs.Pushed.{cut}
use Rattle.timing.specs.Ready.{entry}
use Rattle.timing.proofs.Firsts.{first_le}
use Rattle.timing.proofs.Looking.{number_none, number_some}
use Rattle.timing.proofs.levels.Level.number.Goals as goal

pub bounds-table-step_first : goal.bounds-table-step_first
bounds-table-step_first c =
    let s = c.args.self.now in
    omega (arith, c.step_first.ensures, first_le (case_of s.of.file.now s.of.trailer) s.k c.args.v, c.requires, s.of.laid.nodes_high)

pub returns-then-before-eq0 : goal.returns-then-before-eq0
returns-then-before-eq0 c =
    let s = c.args.self.now in
    number_none (case_of s.of.file.now s.of.trailer) (entry s.of.costs.now) (entry s.times.now) cut s.k (entry c.args.table.now) c.args.v
    _ _ c.step_first.ensures refl c.if-before-eq0.true

pub returns : goal.returns
returns c =
    let s = c.args.self.now in
    number_some (case_of s.of.file.now s.of.trailer) (entry s.of.costs.now) (entry s.times.now) cut s.k (entry c.args.table.now) c.args.v
    _ _ c.step_first.ensures refl c.if-before-eq0.false _ _ c.step_time.ensures.value (omega (arith, c.added.ensures))
