-- How long a listing can be: 321 lines with bounds of 20 digits have 9,379 bytes.
use Prim.Native.Nat.{ℕ, zero, suc, ◌+◌, ◌*◌, ◌^◌, ◌≤◌, ◌<◌}
use native.Mathlib.Omega.{arith}
use mathlib.Core.Path.{◌≡◌, refl}
use mathlib.Core.List.{List}
use lib.ListN.{length, get_or, length-append}
use Rattle.paper.specs.Listings.{bytes, decimal_in, decimal, lines_from, lines_to, bound_lines}
use Rattle.listing.specs.Listed.{after, number_lines}
use Rattle.print.proofs.Lengths.{short, line_length, line_of_two_length}

-- the digits of the numbers from i on, n of them
unfoldable pub widths : ℕ → ℕ → ℕ
widths i zero = 0
widths i (suc n) = length (decimal i) + widths (suc i) n

widths_more : (i n m : ℕ) → n ≤ m → widths i n ≤ widths i m
unfolding widths
widths_more i zero m h = omega arith
widths_more i (suc n) zero h = absurd (omega arith)
widths_more i (suc n) (suc m) h = omega (arith, widths_more (suc i) n m (omega arith))

widths_64 : widths 0 64 ≡ 118
unfolding widths decimal decimal_in
widths_64 = refl

widths_256 : widths 0 256 ≡ 658
unfolding widths decimal decimal_in
widths_256 = refl

module _ (word : List ℕ) (g : ℕ → ℕ) (small : (i : ℕ) → g i < 2 ^ 64) where
  pub lines_length : (i n : ℕ) → length (lines_from word g i n) ≤ n * (length word + 22) + widths i n
  unfolding lines_from widths
  lines_length i zero = omega arith
  lines_length i (suc n) =
      simp length-append (omega (arith, line_of_two_length word i (g i), short (g i) (small i), lines_length (suc i) n))

  -- the most of them
  lines_most : (n m : ℕ) → n ≤ m → length (lines_to word g n) ≤ n * (length word + 22) + widths 0 m
  lines_most n m h = omega (arith, lines_length 0 n, widths_more 0 n m h)

-- 27 bytes for the total, 64 * 26 + 118 for the sets, 256 * 27 + 658 for the facts
pub numbers_length : (numbers : List ℕ) (sets facts : ℕ) → ((i : ℕ) → get_or numbers i 0 < 2 ^ 64) → sets ≤ 64 → facts ≤ 256 → length (number_lines numbers sets facts) ≤ 9379
unfolding bound_lines
numbers_length numbers sets facts small s f =
    let set = lines_most (bytes "set ") (after numbers 1) (λ i. small (1 + i)) sets 64 s in
    let fact = lines_most (bytes "fact ") (after numbers 65) (λ i. small (65 + i)) facts 256 f in
    let total = line_length (bytes "total ") (get_or numbers 0 0) in
    simp length-append (omega (arith, short (get_or numbers 0 0) (small 0), widths_64, widths_256))

-- and no fewer bytes are enough: where every bound has 20 digits there are as many
module _ (m : ℕ) (e : length (decimal m) ≡ 20) where
  full_lines : (word : List ℕ) (i n : ℕ) → length (lines_from word (λ j. m) i n) ≡ n * (length word + 22) + widths i n
  unfolding lines_from widths
  full_lines word i zero = omega arith
  full_lines word i (suc n) = simp length-append (omega (arith, line_of_two_length word i m, full_lines word (suc i) n))

  pub longest_length : length (bound_lines m (λ j. m) 64 (λ j. m) 256) ≡ 9379
  unfolding bound_lines
  longest_length =
      simp length-append
      (omega (arith, line_length (bytes "total ") m, full_lines (bytes "set ") 0 64, full_lines (bytes "fact ") 0 256, widths_64, widths_256))
