-- `short_of`: what is left before the trailer is compared, so that no sum can be too large.
use Prim.Native.Nat.{ℕ, ◌+◌, ◌-◌, ◌≤◌}
use native.Mathlib.Omega.{arith}
use mathlib.Core.Path.{◌≡◌}
use lib.Dec.{ltb}
use Rattle.paper.proofs.Says.{says_lt, says_same}
use Rattle.facts.proofs.short_of.Goals as goal

-- the bytes that are left from p on, where p lies before the trailer at z
left_below : (z p n : ℕ) → p ≤ z → ltb (z - p) n ≡ ltb z (p + n)
left_below z p n h = says_same (λ l. omega arith) (λ l. omega arith) (says_lt (z - p) n) (says_lt z (p + n))

pub returns : goal.returns
returns c = rw c.end_of.ensures (left_below _ _ _ c.requires.p_bound)

pub overflow_sub-result : goal.overflow_sub-result
overflow_sub-result c = omega (arith, c.end_of.ensures, c.requires.p_bound)
