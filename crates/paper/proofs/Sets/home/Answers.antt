-- `paper::Sets::home`: the law of the two products.
use Prim.Native.Nat.{ℕ, ◌*◌, ◌%◌, ◌/◌, ◌≤◌}
use native.Mathlib.Nat.{mul-le-mul, mod-lt}
use native.Mathlib.Omega.{arith}
use mathlib.Core.Path.{ap, ◌∙◌}
use Rattle.paper.proofs.Homes.{inverse_low, home_mod}
use Rattle.paper.proofs.Sets.home.Goals as goal

pub overflow_mul-low : goal.overflow_mul-low
overflow_mul-low c =
    let s = c.args.self in
    let f : c.args.b ≤ 65535 = omega arith in
    let g : s.inverse ≤ 4294967359 = omega (arith, s.rounded_up, inverse_low c.args.b s.count s.some s.few (omega arith)) in
    omega (arith, mul-le-mul f g)

pub overflow_mul-result : goal.overflow_mul-result
overflow_mul-result c =
    let s = c.args.self in
    let f : c.args.b * s.inverse % 4294967296 ≤ 4294967295 = omega arith in
    omega (arith, mul-le-mul f s.few)

pub returns : goal.returns
returns c =
    let s = c.args.self in
    let b = c.args.b in
    let e = ap (λ (n : ℕ). b * n % 4294967296 * s.count / 4294967296) s.rounded_up ∙ home_mod b s.count s.some s.few (omega arith) in
    record { value = e; upper_bound = omega (arith, e, mod-lt b {m = s.count} (omega arith)) }
