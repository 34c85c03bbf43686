-- `runs::run_on`: the last set is held apart, an access keeps what holds of such a run, and the machine has as many ways as before.
use mathlib.Core.Path.{◌≡◌}
use Rattle.runs.proofs.Apart.{Apart}
use Rattle.runs.proofs.run_on.Given as goal

abbrev pub invariant-loop-i : goal.invariant-loop-i
invariant-loop-i g l =
    record {
      apart : Apart g.M.Machine.policy (g.M.Machine.ways l.initial.machine) l.sets l.blocks l.initial.marks l.marks l.states l.last l.state l.misses l.i;
      ways : g.M.Machine.ways l.machine ≡ g.M.Machine.ways l.initial.machine;
    }
