-- What the heads name is added, head by head.
use Prim.Native.Nat.{◌+◌, ◌*◌}
use native.Mathlib.Omega.{arith}
use mathlib.Core.Path.{refl}
use Rattle.paper.proofs.Sums.{added_start, added_more, added_end}
use Rattle.lists.proofs.whole.rows_named.Goals as goal

pub loop-i-preserved : goal.loop-i-preserved
loop-i-preserved c =
    added_more _ _ _ _ _ _ c.loop-i.invariant c.loop-i-test.true refl (omega (arith, (c.type_inv.heads (4 * c.loop-i.i + 3)).fits))

pub loop-i-init : goal.loop-i-init
loop-i-init c = added_start _ _ _

pub returns : goal.returns
returns c =
    let r = added_end _ _ _ _ _ c.loop-i.invariant c.loop-i-test.false in
    record { value = r.0; upper_bound = r.1 }
