-- `lists::numbers::per_loop`: the version decides.
use native.Mathlib.Omega.{arith}
use mathlib.Core.Path.{sym}
use Rattle.paper.proofs.LoopSizes.{per_without, per_with}
use Rattle.lists.proofs.numbers.per_loop.Goals as goal

pub returns-then-version-eq-WITHOUT_W : goal.returns-then-version-eq-WITHOUT_W
returns-then-version-eq-WITHOUT_W c =
    record { value = sym (per_without _ c.if-version-eq-WITHOUT_W.true); lower_bound = omega arith; upper_bound = omega arith }

pub returns : goal.returns
returns c =
    record { value = sym (per_with _ c.if-version-eq-WITHOUT_W.false); lower_bound = omega arith; upper_bound = omega arith }
