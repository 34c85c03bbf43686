-- `writer::sections::put_loops`: a loop after another.
use native.Mathlib.Omega.{arith}
use native.Mathlib.Nat.{mul-zero}
use Rattle.paper.specs.Records.{loop_size}
use Rattle.writer.proofs.Joined.{joined_start, joined_more}
use Rattle.writer.proofs.LoopBytes.{next_loop}
use Rattle.writer.proofs.sections.put_loops.Goals as goal

pub loop-j-preserved : goal.loop-j-preserved
loop-j-preserved c =
    let v = c.args.trailer.version in
    (joined_more c.loop-j.invariant.0 c.put_loop-to.ensures.put, omega (arith, c.loop-j.invariant.1, c.put_loop-to.ensures.value, next_loop (loop_size v) c.loop-j.j))

pub loop-j-init : goal.loop-j-init
loop-j-init c = let v = c.args.trailer.version in (joined_start, omega (arith, mul-zero (loop_size v)))
