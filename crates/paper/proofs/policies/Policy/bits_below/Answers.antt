-- `paper::policies::Policy::bits_below`: NMRU's bits have k ones, and the tree's number is half of it and one more.
use Prim.Native.Nat.{ℕ, ◌+◌, ◌/◌}
use native.Mathlib.Omega.{arith}
use mathlib.Core.Path.{◌∙◌, ap}
use Rattle.paper.proofs.Masks.{full_is}
use Rattle.paper.proofs.TreeLaws.{half_is}
use Rattle.paper.proofs.policies.Policy.bits_below.Goals as goal

pub returns-in-Nmru : goal.returns-in-Nmru
returns-in-Nmru c = rw c.in-Nmru.is (full_is c.args.k (omega arith))

pub returns-in-Tree : goal.returns-in-Tree
returns-in-Tree c =
    let k = c.args.k in
    rw c.in-Tree.is (ap (λ (n : ℕ). n / 2 + 1) (full_is k (omega arith)) ∙ half_is k)
