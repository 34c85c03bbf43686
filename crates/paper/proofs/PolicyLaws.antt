-- What holds of the parts of each policy holds of the parts of every policy's number.
use Prim.Native.Nat.{ℕ, ◌≤◌}
use mathlib.Core.Path.{◌≡◌}
use native.Mathlib.Decide.{ℕ_discrete}
use native.Mathlib.Omega.{arith}
use borrow.Author.Tests.{eq-eqb, ne_eqb}
use Rattle.paper.specs.Policies.{Parts, lru, fifo, nmru, tree, parts_of}

pub by_policy : (Q : Parts → Type 0) (p : ℕ) → (p ≡ 0 → Q lru) → (p ≡ 1 → Q fifo) → (p ≡ 2 → Q nmru) → (3 ≤ p → Q tree) → Q (parts_of p)
by_policy Q p a b c d =
    elim (ℕ_discrete p 0) [
      | yes e ↦ rw (eq-eqb p 0 e) (a e)
      | no l ↦
          elim (ℕ_discrete p 1) [
            | yes e ↦ rw (ne_eqb p 0 l, eq-eqb p 1 e) (b e)
            | no m ↦
                elim (ℕ_discrete p 2) [
                  | yes e ↦ rw (ne_eqb p 0 l, ne_eqb p 1 m, eq-eqb p 2 e) (c e)
                  | no n ↦ rw (ne_eqb p 0 l, ne_eqb p 1 m, ne_eqb p 2 n) (d (omega arith))
                ]
          ]
    ]

pub each : (Q : Parts → Type 0) → Q lru → Q fifo → Q nmru → Q tree → (p : ℕ) → Q (parts_of p)
each Q a b c d p = by_policy Q p (λ e. a) (λ e. b) (λ e. c) (λ h. d)
