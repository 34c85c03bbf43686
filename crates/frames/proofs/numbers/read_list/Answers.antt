-- `frames::numbers::read_list`: the first i are the numbers that stand in the bytes, and at the end all are.
use native.Mathlib.Omega.{arith}
use Rattle.frames.proofs.FilledLists.{filled_start, filled_more, filled_end}
use Rattle.frames.proofs.numbers.read_list.Goals as goal

pub loop-i-init : goal.loop-i-init
loop-i-init g c = filled_start

pub loop-i-preserved : goal.loop-i-preserved
loop-i-preserved g c = filled_more _ c.loop-i.invariant (omega arith) (rw c.WIDTH.ensures at c.read.ensures)

pub returns : goal.returns
returns g c = filled_end c.loop-i.invariant (omega arith)
