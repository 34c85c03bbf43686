-- How long numbers and lines are.
use Prim.Native.Nat.{ℕ, zero, suc, ◌+◌, ◌/◌, ◌%◌, ◌^◌, ◌≤◌, ◌<◌}
use native.Mathlib.Omega.{arith}
use native.Mathlib.Nat.{pow-suc}
use native.Mathlib.Decide.{dec_le}
use mathlib.Core.Path.{◌≡◌}
use mathlib.Core.Logic.{dite}
use mathlib.Core.List.{List}
use borrow.Author.Tests.{lt-ltb, le-ltb}
use lib.ListN.{length, length-append}
use Rattle.paper.specs.declared.Refusal.{Refusal}
use Rattle.puts.specs.Put.{Fits}
use Rattle.paper.specs.Listings.{bytes, digit, decimal_in, decimal, line, line_of_two, refusal_line}

short_in : (turns k n : ℕ) → n < 10 ^ suc k → length (decimal_in turns n) ≤ suc k
unfolding decimal_in
short_in zero k n h = omega arith
short_in (suc turns) zero n h = rw (lt-ltb n 10 h) (omega arith)
short_in (suc turns) (suc k) n h =
    dite (dec_le 10 n)
    (λ (m : 10 ≤ n).
    rw (le-ltb n 10 m)
    (omega (arith, length-append (decimal_in turns (n / 10)) (digit (n % 10)), short_in turns k (n / 10) (omega (arith, pow-suc 10 (suc k))))))
    (λ (m : ¬ (10 ≤ n)). rw (lt-ltb n 10 (omega arith)) (omega arith))

-- a number of 64 bits has at most 20 digits
pub short : (n : ℕ) → n < 2 ^ 64 → length (decimal n) ≤ 20
unfolding decimal
short n h = short_in n 19 n (omega arith)

module _ (word : List ℕ) where
  pub line_length : (n : ℕ) → length (line word n) ≡ length word + length (decimal n) + 1
  unfolding line
  line_length n = simp length-append (omega arith)

  pub line_of_two_length : (i n : ℕ) → length (line_of_two word i n) ≡ length word + length (decimal i) + length (decimal n) + 2
  unfolding line_of_two line
  line_of_two_length i n = simp length-append (omega arith)

pub refusal_length : (r : Refusal) → r.number < 2 ^ 64 → r.place < 2 ^ 64 → r.second < 2 ^ 64 → length (refusal_line r) ≤ 71
refusal_length r n p q =
    simp length-append
    (omega (arith, line_of_two_length (bytes " ") r.place r.second, short r.number n, short r.place p, short r.second q))

pub refusal_fits : (l : List ℕ) (at : ℕ) (r : Refusal) → r.number < 2 ^ 64 → r.place < 2 ^ 64 → r.second < 2 ^ 64 → at + 71 ≤ length l → Fits l at (refusal_line r)
refusal_fits l at r n p q h = record { room = omega (arith, refusal_length r n p q) }
