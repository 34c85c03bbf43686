-- A loop that is a step has its time in the table, which is cut; a node has its cost, of 32 bits.
use mathlib.Core.Path.{refl}
use native.Mathlib.Omega.{arith}
use Rattle.paper.specs.Files.{case_of}
use Rattle.timing.specs.Ready.{entry}
use Rattle.timing.proofs.Looking.{loop_from, time_loop, time_node}
use Rattle.timing.proofs.levels.Level.step_time.Goals as goal

pub returns-then-step-self : goal.returns-then-step-self
unfolding case_of
returns-then-step-self c =
    let s = c.args.self.now in
    let e = case_of s.of.file.now s.of.trailer in
    let h = s.ready.step c.args.v c.requires in
    record {
      value = time_loop e s.k c.args.v _ h (entry s.of.costs.now) (entry s.times.now) c.if-step-self.true _ refl;
      upper_bound = omega (arith, h, s.ready.time _ (rw h (loop_from e s.k c.args.v (omega (arith, h, c.if-step-self.true)))) c.if-step-self.true);
    }

pub returns-clause-value : goal.returns-clause-value
unfolding case_of
returns-clause-value c =
    let s = c.args.self.now in
    time_node (case_of s.of.file.now s.of.trailer) s.k c.args.v _ (s.ready.step c.args.v c.requires) (entry s.of.costs.now) (entry s.times.now) c.if-step-self.false _ refl
