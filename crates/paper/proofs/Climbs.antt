-- Numbers that never fall from one to the next.
use Prim.Native.Nat.{ℕ, zero, suc, ◌≤◌, ◌<◌}
use native.Mathlib.Omega.{arith}
use native.Mathlib.Decide.{dec_le}
use mathlib.Core.Path.{◌≡◌}

pub climbs : (g : ℕ → ℕ) (n : ℕ) → ((k : ℕ) → suc k < n → g k ≤ g (suc k)) → (j k : ℕ) → j ≤ k → k < n → g j ≤ g k
climbs g n w j zero l h = let z : j ≡ 0 = omega arith in rw z (omega arith)
climbs g n w j (suc k) l h =
    elim (dec_le j k) [
      | yes q ↦ omega (arith, climbs g n w j k q (omega arith), w k h)
      | no q ↦ let z : j ≡ suc k = omega arith in rw z (omega arith)
    ]
