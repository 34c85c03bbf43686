-- The version decides, and the longer of the two is the ceiling.
use native.Mathlib.Omega.{arith}
use mathlib.Core.Path.{sym}
use Rattle.paper.proofs.LoopSizes.{size_without, size_with}
use Rattle.layout.proofs.places.loop_size.Goals as goal

pub returns-then-version-eq-WITHOUT_W : goal.returns-then-version-eq-WITHOUT_W
returns-then-version-eq-WITHOUT_W c =
    record { value = sym (size_without _ c.if-version-eq-WITHOUT_W.true); upper_bound = omega arith }

pub returns : goal.returns
returns c =
    record { value = sym (size_with _ c.if-version-eq-WITHOUT_W.false); upper_bound = omega arith }
