-- The remainder is below the number of sets, which is at most 64.
use native.Mathlib.Nat.{mod-lt}
use native.Mathlib.Omega.{arith}
use mathlib.Core.Path.{refl}
use Rattle.paper.proofs.cache.home.Goals as goal

pub returns : goal.returns
returns c =
    record { value = refl; upper_bound = omega (arith, mod-lt c.args.b {m = c.args.sets} (omega arith)) }
