-- No policy's bound is above N: "every bound uses the lesser of E and N in place of E".
use Prim.Native.Nat.{ℕ, ◌-◌, ◌≤◌}
use mathlib.Core.Bool.{Bool, true, false, cond}
use native.Mathlib.Nat.{div-le_self}
use native.Mathlib.Omega.{arith}
use lib.Dec.{ltb, leb}
use Rattle.paper.specs.Policies.{Parts}
use Rattle.paper.specs.Trees.{tree_limit}
use Rattle.paper.specs.Bounds.{g, bound_of}
use Rattle.paper.proofs.PolicyLaws.{each}

pub cond_low : (t : Bool) {x y b : ℕ} → x ≤ b → y ≤ b → cond t x y ≤ b
cond_low true h k = h
cond_low false h k = k

pub bound_low : (p k l E N : ℕ) → E ≤ N → bound_of p k l E N ≤ N
unfolding bound_of
bound_low p k l E N h =
    each (λ (q : Parts). q.bound k l E N ≤ N) h (cond_low (ltb l 2) h (omega (arith, div-le_self (N - E) (g k l)))) (cond_low (ltb l 3) h (omega arith)) (cond_low (leb l (tree_limit k)) h (omega arith)) p
