-- Pigeonhole: blocks in different lines that all lie in R are at most as many as R has.
use Prim.Native.Nat.{ℕ, zero, suc, ◌+◌, ◌≤◌, ◌<◌, min}
use mathlib.Core.Path.{◌≡◌, refl, sym}
use mathlib.Core.Logic.{◌≢◌}
use mathlib.Core.List.{List, [], ◌∷◌}
use native.Mathlib.Decide.{ℕ_discrete}
use native.Mathlib.Omega.{arith}
use lib.ListN.{length, get_or}
use Rattle.paper.specs.Machines.{none}
use Rattle.theory.proofs.Count.{sum, one, cnt, one_yes, one_no}
use Rattle.theory.proofs.Ideal.{Apart}

-- 1 for a block of R, and else 0
abbrev pub known : List ℕ → ℕ → ℕ
known R y = min 1 (cnt y R)

sum_two : (f g h : ℕ → ℕ) (l : List ℕ) → ((y : ℕ) → f y ≤ g y + h y) → sum f l ≤ sum g l + sum h l
unfolding sum
sum_two f g h [] w = omega arith
sum_two f g h (y ∷ l) w = omega (arith, w y, sum_two f g h l w)

known_cons : (z y : ℕ) (R : List ℕ) → known (z ∷ R) y ≤ one z y + known R y
unfolding sum
known_cons z y R =
    elim (ℕ_discrete y z) [ yes p ↦ omega (arith, one_yes z y p) | no q ↦ omega (arith, one_no y z (λ e. q (sym e))) ]

-- each block of R stands in one line at most
pub pigeons : (R l : List ℕ) → Apart l → cnt none R ≡ 0 → sum (known R) l ≤ length R
unfolding sum
pigeons [] [] v e = omega arith
pigeons [] (y ∷ l) v e = omega (arith, pigeons [] l (λ z r. omega (arith, v z r)) e)
pigeons (z ∷ R) l v e =
    let real : z ≢ none = λ q. omega (arith, one_yes none z q) in
    omega (arith, sum_two (known (z ∷ R)) (one z) (known R) l (λ y. known_cons z y R), v z real, pigeons R l v (omega arith))

-- what stands in a line is there
pub line_holds : (l : List ℕ) (j d : ℕ) → get_or l j d ≢ d → 1 ≤ cnt (get_or l j d) l
unfolding sum
line_holds [] j d h = absurd (h refl)
line_holds (y ∷ l) zero d h = omega (arith, one_yes y y refl)
line_holds (y ∷ l) (suc j) d h = omega (arith, line_holds l j d h)

-- the first p lines hold as many
lead : (p : ℕ) (l R : List ℕ) → cnt none R ≡ 0 → ((j : ℕ) → j < p → 1 ≤ cnt (get_or l j none) R) → p ≤ sum (known R) l
unfolding sum
lead zero l R e h = omega arith
lead (suc p) [] R e h = absurd (omega (arith, h 0 (omega arith)))
lead (suc p) (y ∷ l) R e h = omega (arith, h 0 (omega arith), lead p l R e (λ j i. h (suc j) (omega arith)))

pub pigeon : (p : ℕ) (l R : List ℕ) → Apart l → cnt none R ≡ 0 → ((j : ℕ) → j < p → 1 ≤ cnt (get_or l j none) R) → p ≤ length R
pigeon p l R v e h = omega (arith, lead p l R e h, pigeons R l v e)
