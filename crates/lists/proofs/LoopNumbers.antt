-- A loop's numbers in the list: where they stand, and the loop that they are.
use Prim.Native.Nat.{ℕ, ◌+◌, ◌*◌, ◌≤◌, ◌<◌}
use native.Mathlib.Omega.{arith}
use mathlib.Core.Path.{◌≡◌, refl, ap}
use mathlib.Core.List.{List}
use lib.ListN.{length, get_or}
use Rattle.paper.specs.declared.Loop.{Loop}
use Rattle.paper.specs.Files.{visits_by}
use Rattle.paper.specs.Writing.{per_loop}
use Rattle.paper.proofs.LoopSizes.{per_low, record_ends}
use Rattle.lists.specs.Listed.{loop_at}

-- the numbers of loop j of n are in the list
pub numbers_in : (version : ℕ) (loops : List ℕ) (j n : ℕ) → length loops ≡ per_loop version * n → j < n → per_loop version * j + per_loop version ≤ length loops
numbers_in version loops j n e h = omega (arith, record_ends (per_loop version) j n h)

-- p numbers a loop, where p is read of the version
pub front_in :
    (version p : ℕ) (loops : List ℕ) (j n k : ℕ) → p ≡ per_loop version → length loops ≡ per_loop version * n → j < n → k < 3 → p * j + k < length loops
front_in version p loops j n k q e h l = rw q (omega (arith, numbers_in version loops j n e h, per_low version))

pub number_is : (version p : ℕ) (loops : List ℕ) (j k : ℕ) → p ≡ per_loop version → get_or loops (p * j + k) 0 ≡ get_or loops (per_loop version * j + k) 0
number_is version p loops j k q = ap (λ (m : ℕ). get_or loops (m * j + k) 0) q

-- the four numbers make the loop
pub loop_of :
    (version : ℕ) (loops : List ℕ) (j a b c d : ℕ) → a ≡ get_or loops (per_loop version * j + 0) 0 → b ≡ get_or loops (per_loop version * j + 1) 0 → c ≡ get_or loops (per_loop version * j + 2) 0
    → d ≡ visits_by version (get_or loops (per_loop version * j + 3) 0) → ◌≡◌ {A = Loop} (record { first = a; last = b; bound = c; visits = d }) (loop_at version loops j)
loop_of version loops j a b c d p q r s =
    let z : per_loop version * j + 0 ≡ per_loop version * j = omega arith in
    rw (p, q, r, s, z) refl
