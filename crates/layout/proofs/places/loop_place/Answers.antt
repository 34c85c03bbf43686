-- A loop's size is small, and a number of loops has 16 bits, so the place is small too.
use Prim.Native.Nat.{ℕ, ◌*◌, ◌≤◌}
use native.Mathlib.Omega.{arith}
use native.Mathlib.Nat.{mul-le-mul}
use Rattle.layout.proofs.places.loop_place.Goals as goal

product : (s j : ℕ) → s ≤ 12 → j ≤ 65535 → s * j ≤ 786420
product s j h k = mul-le-mul h k

pub overflow_mul-result : goal.overflow_mul-result
overflow_mul-result c = omega (arith, product _ c.args.j c.loop_size.ensures.upper_bound (omega arith))

pub overflow_add-result : goal.overflow_add-result
overflow_add-result c = omega (arith, product _ c.args.j c.loop_size.ensures.upper_bound (omega arith))

pub returns : goal.returns
returns c = cc
