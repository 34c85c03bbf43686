-- A forward edge carries the number of its start, any other nothing.
use native.Mathlib.Omega.{arith}
use Rattle.paper.specs.Files.{case_of}
use Rattle.timing.specs.Pushed.{cut}
use Rattle.timing.specs.Ready.{entry}
use Rattle.timing.proofs.Looking.{carried_on, carried_back}
use Rattle.timing.proofs.levels.Level.carried.Goals as goal

pub returns-then-u-v : goal.returns-then-u-v
returns-then-u-v c =
    let s = c.args.self.now in
    carried_on (case_of s.of.file.now s.of.trailer) (entry s.of.costs.now) (entry s.times.now) cut s.k (entry c.args.table.now) c.args.u c.args.v _
    (omega (arith, c.if-u-v.true)) c.number.ensures

pub returns : goal.returns
returns c =
    let s = c.args.self.now in
    carried_back (case_of s.of.file.now s.of.trailer) (entry s.of.costs.now) (entry s.times.now) cut s.k (entry c.args.table.now) c.args.u c.args.v (omega (arith, c.if-u-v.false))
