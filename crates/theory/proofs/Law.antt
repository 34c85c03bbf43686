-- A machine of one set, and what it keeps of a block b between two accesses of b.
use Prim.Native.Nat.{ℕ, ◌+◌, ◌*◌, ◌≤◌}
use mathlib.Core.Path.{◌≡◌}
use mathlib.Core.Logic.{◌≢◌}
use mathlib.Core.List.{List, []}
use lib.ListN.{length}
use Rattle.paper.specs.Machines.{none}
use Rattle.theory.proofs.Count.{cnt}

-- 1 where an access misses and 0 where it hits, the state after it, and the states that the machine may be in
pub record Machine : Type 1 where
  pub State : Type 0
  pub miss : ℕ → State → ℕ
  pub step : ℕ → State → State
  pub Legal : State → Type 0

-- a step keeps a state legal, and an access misses at most once
pub record Fair (M : Machine) : Type 0 where
  pub legal : (x : ℕ) (s : M.State) → M.Legal s → M.Legal (M.step x s)
  pub once : (x : ℕ) (s : M.State) → M.miss x s ≤ 1

-- `Known m R s`: since b's last access all accesses were of R, at most n blocks, and m is saved. An access of b that misses costs c;
-- it is paid by d and the savings, and the first in a stay by a besides, which is enough for any access.
pub record Law (M : Machine) (b n c a d : ℕ) : Type 1 where
  pub enough : c ≤ a + d
  pub Known : ℕ → List ℕ → M.State → Type 0
  pub wider :
      (m : ℕ) (R R' : List ℕ) (s : M.State) → ((y : ℕ) → 1 ≤ cnt y R → 1 ≤ cnt y R') → length R' ≤ n → cnt none R' ≡ 0 → Known m R s → Known m R' s
  pub other : (m x : ℕ) (R : List ℕ) (s : M.State) → x ≢ b → 1 ≤ cnt x R → M.Legal s → Known m R s → Known m R (M.step x s)
  pub first : (s : M.State) → M.Legal s → (m' : ℕ) × (c * M.miss b s + m' ≤ a + d) × Known m' [] (M.step b s)
  pub again : (m : ℕ) (R : List ℕ) (s : M.State) → M.Legal s → Known m R s → (m' : ℕ) × (c * M.miss b s + m' ≤ d + m) × Known m' [] (M.step b s)
