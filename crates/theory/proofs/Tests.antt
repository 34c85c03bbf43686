-- Tests and the numbers that they make.
use Prim.Native.Nat.{ℕ, ◌≤◌}
use native.Mathlib.Omega.{arith}
use mathlib.Core.Bool.{Bool, true, false}
use Rattle.paper.specs.Lists.{bit}
use Rattle.paper.proofs.Says.{Says, holds, fails}

pub bit_low : (t : Bool) → bit t ≤ 1
bit_low true = omega arith
bit_low false = omega arith

-- a test whose statement gives one
pub bit_le : {P : Type 0} {t : Bool} {k : ℕ} → Says P t → (P → 1 ≤ k) → bit t ≤ k
bit_le (holds p) f = f p
bit_le (fails n) f = omega arith

pub bit_one : {P : Type 0} {t : Bool} → Says P t → P → 1 ≤ bit t
bit_one (holds p) q = omega arith
bit_one (fails n) q = absurd (n q)
