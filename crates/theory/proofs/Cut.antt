-- A step of the paper changes the first k lines as the machine on k lines does, and leaves the lines from k on.
use Prim.Native.Nat.{ℕ, zero, suc, ◌-◌, ◌≤◌, ◌<◌, min}
use mathlib.Core.Path.{◌≡◌, sym, ap}
use mathlib.Core.Bool.{Bool, true, false, cond, not}
use mathlib.Core.List.{List, [], ◌∷◌, ◌++◌}
use native.Mathlib.Decide.{ℕ_discrete}
use native.Mathlib.Omega.{arith}
use borrow.Author.Tests.{eq-eqb, ne_eqb}
use lib.ListN.{length, take, drop, take-append-drop}
use lib.Seq.{length-take-le}
use Rattle.paper.specs.Lists.{bit}
use Rattle.paper.specs.Machines.{line_of, hits, pushed, one_down}
use Rattle.paper.proofs.Says.{Says, holds, fails, says_lt, says_as}
use Rattle.theory.proofs.Count.{cnt}
use Rattle.theory.proofs.Ideal.{miss, shift, lru, fifo}
use Rattle.theory.proofs.Lines.{line_first, line_next, line_in, in_line, line_out, fifo_in, fifo_out}

-- b pushed to line 0, with line j or the last of the first k taken out, is a shift of the first k lines
pushed_shift : (k x c j : ℕ) (l : List ℕ) → k < length l → j ≡ min (line_of (take (suc k) l) x) k → pushed j l c ≡ shift x c (take (suc k) l) ++ drop (suc k) l
unfolding pushed shift
pushed_shift k x c j [] h e = absurd (omega arith)
pushed_shift k x c zero (y ∷ l) h e =
    elim (ℕ_discrete y x) [
      | yes p ↦ rw (eq-eqb y x) (ap {B = List ℕ} (λ r. c ∷ r) (sym (take-append-drop k l)))
      | no n ↦ let z : k ≡ 0 = omega (arith, line_next x y (take k l) n) in rw (ne_eqb y x, z)
    ]
pushed_shift zero x c (suc j) (y ∷ l) h e = absurd (omega arith)
pushed_shift (suc k) x c (suc j) (y ∷ l) h e =
    elim (ℕ_discrete y x) [
      | yes p ↦ absurd (omega (arith, line_first x y (take (suc k) l) p))
      | no n ↦
          rw (ne_eqb y x)
          (ap {B = List ℕ} (λ r. c ∷ r) (pushed_shift k x y j l (omega arith) (omega (arith, line_next x y (take (suc k) l) n))))
    ]

module _ (k x : ℕ) (l : List ℕ) (low : 0 < k) (fits : k ≤ length l) where
  size : length (take k l) ≡ k
  size = length-take-le k l fits

  -- a hit is a hit among the first k lines
  pub says_in : Says (1 ≤ cnt x (take k l)) (hits k l x)
  unfolding hits
  says_in =
      says_as
      (λ h. line_in x (take k l) (omega (arith, size)))
      (λ i. omega (arith, size, in_line x (take k l) i))
      (says_lt (line_of (take k l) x) k)

  pub same_miss : bit (not (hits k l x)) ≡ miss x (take k l)
  same_miss = go (hits k l x) says_in
    where
      go : (t : Bool) → Says (1 ≤ cnt x (take k l)) t → bit (not t) ≡ miss x (take k l)
      go true (holds i) = omega arith
      go false (fails o) = omega arith

  push : (j : ℕ) → j ≡ min (line_of (take k l) x) (k - 1) → pushed j l x ≡ lru x (take k l) ++ drop k l
  push j e =
      let z : suc (k - 1) ≡ k = omega arith in
      rw z at (pushed_shift (k - 1) x x j l (omega arith) (rw z e))

  pub lru_lines : cond (hits k l x) (pushed (line_of (take k l) x) l x) (one_down k l x) ≡ lru x (take k l) ++ drop k l
  lru_lines = go (hits k l x) says_in
    where
      go : (t : Bool) → Says (1 ≤ cnt x (take k l)) t → cond t (pushed (line_of (take k l) x) l x) (one_down k l x) ≡ lru x (take k l) ++ drop k l
      go true (holds i) = push (line_of (take k l) x) (omega (arith, size, in_line x (take k l) i))
      go false (fails o) = push (k - 1) (omega (arith, size, line_out x (take k l) o))

  pub fifo_lines : cond (hits k l x) l (one_down k l x) ≡ fifo x (take k l) ++ drop k l
  fifo_lines = go (hits k l x) says_in
    where
      go : (t : Bool) → Says (1 ≤ cnt x (take k l)) t → cond t l (one_down k l x) ≡ fifo x (take k l) ++ drop k l
      go true (holds i) = rw fifo_in (sym (take-append-drop k l))
      go false (fails o) = rw fifo_out (push (k - 1) (omega (arith, size, line_out x (take k l) o)))
