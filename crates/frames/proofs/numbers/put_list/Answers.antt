-- `frames::numbers::put_list` puts one after another: after i of them the others are left.
use native.Mathlib.Omega.{arith}
use mathlib.Core.Path.{◌≡◌}
use lib.ListN.{length}
use Rattle.frames.proofs.Bytes.{begun_start, begun_more, begun_end}
use Rattle.frames.proofs.numbers.put_list.Goals as goal

pub loop-number-init : goal.loop-number-init
loop-number-init g c = begun_start g.met.N.Number.laws

pub loop-number-preserved : goal.loop-number-preserved
loop-number-preserved g c =
    begun_more g.met.N.Number.laws c.number-item.result c.loop-number.invariant c.loop-number-test.true c.number-item.is
    (rw (c.WIDTH.ensures, c.value.ensures) at c.put-to.ensures.put) (rw c.WIDTH.ensures at c.put-to.ensures.value)

pub returns : goal.returns
returns g c =
    let e : c.loop-number.number-index ≡ length c.args.numbers.now = omega arith in
    record { put = begun_end g.met.N.Number.laws c.loop-number.invariant e; value = rw e at c.loop-number.invariant.place }
