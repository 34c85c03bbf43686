-- Rounded up: l - 2 is one less than the divisor, which is not 0.
use Prim.Native.Nat.{◌-◌}
use native.Mathlib.Omega.{arith}
use mathlib.Core.Path.{◌≡◌}
use Rattle.paper.specs.Bounds.{ceil}
use Rattle.formulas.proofs.ratio.Goals as goal

pub returns-clause-value : goal.returns-clause-value
unfolding ceil
returns-clause-value c = let z : c.args.l - 1 - 1 ≡ c.args.l - 2 = omega arith in rw z
