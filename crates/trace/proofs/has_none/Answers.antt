-- `trace::has_none`: the eight comparisons are the eight tests of the table, and the first stands at i + 0.
use native.Mathlib.Nat.{add-zero}
use Rattle.paper.specs.Lists.{table}
use Rattle.paper.specs.Traces.{bad_access}
use Rattle.trace.specs.Eights.{some_of}
use Rattle.trace.proofs.has_none.Goals as goal

pub returns : goal.returns
unfolding some_of table bad_access
returns c = rw add-zero
