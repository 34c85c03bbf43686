-- The divisor is k-l+1, whichever is added first.
use Prim.Native.Nat.{ℕ, suc, ◌+◌, ◌-◌, ◌*◌, ◌/◌}
use native.Mathlib.Omega.{arith}
use mathlib.Core.Path.{◌≡◌, ap}
use Rattle.paper.specs.Bounds.{floor_of}
use Rattle.formulas.proofs.floor_of.Goals as goal

pub returns : goal.returns
unfolding floor_of
returns c =
    let a = c.args in
    let z : a.trailer.ways + 1 - a.l ≡ suc a.trailer.ways - a.l = omega arith in
    ap (λ (x : ℕ). a.trailer.ways * a.m / x) z
