-- `onepass::weight_of`: the shift by j is 2^j, which is below 256.
use Prim.Native.Nat.{ℕ, ◌*◌, ◌%◌, ◌^◌, ◌≤◌, ◌<◌}
use native.Mathlib.Omega.{arith}
use mathlib.Core.Path.{◌≡◌, ◌∙◌}
use lib.Pow.{shl_exact, pow_mono}
use Rattle.lines.specs.Lines.{weight_of}
use Rattle.onepass.proofs.weight_of.Goals as goal

bit_is : (j : ℕ) → j < 8 → (1 * 2 ^ j % 18446744073709551616 ≡ 2 ^ j) × (2 ^ j ≤ 128)
bit_is j h = (shl_exact {a = 1} 1 j 64 (omega arith) (omega arith) ∙ omega arith, pow_mono {i = j} {j = 7} (omega arith))

pub overflow_sub-result : goal.overflow_sub-result
overflow_sub-result c = let e = bit_is c.args.j c.requires in omega (arith, e)

pub returns : goal.returns
unfolding weight_of
returns c =
    let e = bit_is c.args.j c.requires in
    record { value = omega (arith, e); upper_bound = omega (arith, e) }
