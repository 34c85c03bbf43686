-- Lines that come one after another: the next of them, and lines with the same numbers.
use Prim.Native.Nat.{ℕ, zero, suc, ◌+◌, ◌-◌, ◌≤◌, ◌<◌}
use native.Mathlib.Omega.{arith}
use mathlib.Core.Path.{◌≡◌, refl, ◌∙◌, ap}
use mathlib.Core.List.{List, ◌++◌}
use lib.ListN.{length, get_or, take, drop, length-take, length-drop}
use lib.Seq.{get_or-take, get_or-drop}
use Rattle.puts.specs.Put.{Fits, Put}
use Rattle.puts.proofs.Putting.{Left, left_fits, left_more, left_end, first_fits}
use Rattle.paper.specs.Listings.{line_of_two, lines_from, lines_to}
use Rattle.listing.specs.Listed.{after, numbered}

-- Of a line for each number the first i are put: the others are left.
pub record Counted (old : List ℕ) (at : ℕ) (word : List ℕ) (first : ℕ) (numbers l : List ℕ) (to i : ℕ) : Type 0 where
  pub left : Left old at (numbered word first numbers) l to (lines_from word (λ k. get_or numbers (k - first) 0) (first + i) (length numbers - i))

module _ {old : List ℕ} {at : ℕ} {word : List ℕ} {first : ℕ} {numbers : List ℕ} where
  module _ {l : List ℕ} {to i : ℕ} (f : Counted old at word first numbers l to i) where
    next_line : i < length numbers →
        Left old at (numbered word first numbers) l to
        (line_of_two word (first + i) (get_or numbers i 0) ++ lines_from word (λ k. get_or numbers (k - first) 0) (first + (i + 1)) (length numbers - (i + 1)))
    unfolding lines_from
    next_line h =
        let e : length numbers - i ≡ suc (length numbers - (i + 1)) = omega arith in
        let s : suc (first + i) ≡ first + (i + 1) = omega arith in
        let z : first + i - first ≡ i = omega arith in
        rw (s, z) at (rw e at f.left)

    pub next_fits : Fits old at (numbered word first numbers) → i < length numbers → Fits l to (line_of_two word (first + i) (get_or numbers i 0))
    next_fits h k = first_fits _ _ (left_fits h (next_line k))

    pub counted_more : {m : List ℕ} {next : ℕ} → i < length numbers → Put l to (line_of_two word (first + i) (get_or numbers i 0)) next m → Counted old at word first numbers m next (i + 1)
    counted_more h p = record { left = left_more p (next_line h) }

    pub counted_end : length numbers ≤ i → Put old at (numbered word first numbers) to l
    unfolding lines_from
    counted_end h =
        let e : length numbers - i ≡ 0 = omega arith in
        left_end (rw e at f.left)

pub lines_same : (word : List ℕ) (g h : ℕ → ℕ) (i n : ℕ) → ((k : ℕ) → k < i + n → g k ≡ h k) → lines_from word g i n ≡ lines_from word h i n
unfolding lines_from
lines_same word g h i zero e = refl
lines_same word g h i (suc n) e = rw (e i (omega arith), lines_same word g h (suc i) n (λ k l. e k (omega arith)))

-- the n numbers from a place on, cut out of their list
pub cut_lines : (word numbers : List ℕ) (from n e : ℕ) → e ≡ from + n → e ≤ length numbers → numbered word 0 (take (e - from) (drop from numbers)) ≡ lines_to word (after numbers from) n
cut_lines word numbers from n e q h =
    let z : e - from ≡ n = omega arith in
    let many : length (take n (drop from numbers)) ≡ n = omega (arith, length-take n (drop from numbers), length-drop from numbers) in
    rw (z, many)
    (lines_same word _ (after numbers from) 0 n (λ k l.
    let s : k - 0 ≡ k = omega arith in
    ap (λ (j : ℕ). get_or (take n (drop from numbers)) j 0) s ∙ get_or-take n (drop from numbers) k 0 (omega arith) ∙ get_or-drop from numbers k 0))
