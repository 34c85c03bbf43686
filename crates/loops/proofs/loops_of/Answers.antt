-- What is read so far (`Read`): each record is the loop that the file has there.
use mathlib.Core.Path.{refl}
use Rattle.loops.proofs.Handing.{read_start, read_more, read_end}
use Rattle.loops.proofs.loops_of.Goals as goal

pub loop-j-preserved : goal.loop-j-preserved
loop-j-preserved c =
    let laid = c.requires in
    read_more _ _ _ _ _ c.loop-j.invariant c.loop-j-test.true laid.loops_high c.loop_at.ensures

pub loop-j-init : goal.loop-j-init
loop-j-init c = read_start _ _ _ refl

pub returns : goal.returns
returns c = read_end _ _ _ _ c.loop-j.invariant c.loop-j-test.false
