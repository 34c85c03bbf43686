-- `runs::fifo_run`: an access keeps what holds of a run; a hit changes nothing, so only a miss is stored.
use mathlib.Core.Path.{◌≡◌}
use lib.ListN.{length}
use Rattle.paper.specs.Policies.{fifo_policy}
use Rattle.runs.specs.TraceRuns.{held}
use Rattle.runs.proofs.Going.{Going}
use Rattle.runs.proofs.fifo_run.Given as goal

abbrev pub invariant-loop-i : goal.invariant-loop-i
invariant-loop-i l =
    record { going : Going fifo_policy l.k l.sets l.blocks l.initial.marks l.marks (held l.states) l.misses l.i; long : length l.states ≡ 64 }
