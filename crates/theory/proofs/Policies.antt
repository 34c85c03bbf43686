-- The policies by their numbers.
use Prim.Native.Nat.{ℕ, ◌≤◌}
use mathlib.Core.Path.{◌≡◌}
use mathlib.Core.Bool.{true}
use native.Mathlib.Omega.{arith}
use Rattle.paper.specs.Machines.{offered}
use Rattle.paper.proofs.Says.{says_true}
use Rattle.paper.proofs.PolicyLaws.{by_policy}
use Rattle.paper.proofs.States.{says_offered}
use Rattle.paper.proofs.TreeLaws.{TreeWays}
use Rattle.theory.proofs.Law.{Machine, Fair}
use Rattle.theory.proofs.Lru.{LRU, lru_fair}
use Rattle.theory.proofs.Fifo.{FIFO, fifo_fair}
use Rattle.theory.proofs.Ways.{placed_fair}
use Rattle.theory.proofs.Spots.{NMRU, nmru_marks}
use Rattle.theory.proofs.Tree.{TREE, tree_marks}

pub data Policy : Type 0 where
  Lru : Policy
  Fifo : Policy
  Nmru : Policy
  Tree : Policy

-- "policy (0 LRU, 1 FIFO, 2 NMRU)"; "Policy 3 is tree replacement"
abbrev pub number : Policy → ℕ
number Lru = 0
number Fifo = 1
number Nmru = 2
number Tree = 3

abbrev pub ideal : Policy → ℕ → Machine
ideal Lru k = LRU k
ideal Fifo k = FIFO k
ideal Nmru k = NMRU k
ideal Tree k = TREE k

-- "A set has k ways (LRU, FIFO 1 to 8; NMRU 2 to 8)"; the tree 2, 4 or 8
abbrev pub Fits : Policy → ℕ → Type 0
Fits Lru k = 1 ≤ k
Fits Fifo k = 1 ≤ k
Fits Nmru k = 2 ≤ k
Fits Tree k = TreeWays k

pub fair : (P : Policy) (k : ℕ) → Fits P k → Fair (ideal P k)
fair Lru k h = lru_fair k
fair Fifo k h = fifo_fair k
fair Nmru k h = placed_fair (nmru_marks k h)
fair Tree k h = placed_fair (tree_marks k h)

pub record Offer (p k : ℕ) : Type 0 where
  pub policy : Policy
  pub is : p ≡ number policy
  pub enough : Fits policy k
  pub most : k ≤ 8

pub offer : (p k : ℕ) → offered p k ≡ true → Offer p k
offer p k h =
    let o = says_true (says_offered p k) h in
    by_policy (λ parts. Offer p k) p
    (λ e. record { policy = Lru; is = e; enough = o.least; most = o.most })
    (λ e. record { policy = Fifo; is = e; enough = o.least; most = o.most })
    (λ e. record { policy = Nmru; is = e; enough = o.two e; most = o.most })
    (λ l. let e : p ≡ 3 = omega (arith, o.known) in record { policy = Tree; is = e; enough = o.tree e; most = o.most })
