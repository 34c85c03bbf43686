-- The lines of the patterns: what is left of each loop, and how long they are.
use Prim.Native.Nat.{ℕ, zero, suc, ◌+◌, ◌-◌, ◌*◌, ◌^◌, ◌≤◌, ◌<◌}
use native.Mathlib.Omega.{arith}
use native.Mathlib.Numerals.{add-one}
use mathlib.Core.Path.{◌≡◌, refl, ◌∙◌, ap, subst}
use mathlib.Core.List.{List, [], ◌∷◌, ◌++◌, append-nil}
use lib.ListN.{length, drop, length-append, drop_of_length-le}
use Rattle.paper.specs.Machines.{bit_at, marked}
use Rattle.paper.specs.Listings.{bytes}
use Rattle.paper.specs.Patterns.{binary, next_from, pattern_line, patterns_from, patterns, missed, tree_table, tree_patterns}
use Rattle.puts.specs.Put.{Put}
use Rattle.puts.proofs.Putting.{Left, left_start, put_whole}

pub binary_length : (bits n : ℕ) → length (binary bits n) ≡ n
unfolding binary
binary_length bits zero = refl
binary_length bits (suc n) = omega (arith, binary_length bits n)

next_length : (f : ℕ → ℕ) (w j n : ℕ) → length (next_from f w j n) ≡ n * suc w
unfolding next_from
next_length f w j zero = omega arith
next_length f w j (suc n) = simp length-append (omega (arith, binary_length (f j) w, next_length f w (suc j) n))

line_length : (k w : ℕ) (miss : List ℕ) (f : ℕ → ℕ) (p : ℕ) → length (pattern_line k w miss f p) ≡ w + (length miss + (k * suc w + 1))
unfolding pattern_line
line_length k w miss f p = simp length-append (omega (arith, binary_length p w, next_length f w 0 k))

lines_length : (line : ℕ → List ℕ) (c : ℕ) → ((p : ℕ) → length (line p) ≡ c) → (p n : ℕ) → length (patterns_from line p n) ≡ n * c
unfolding patterns_from
lines_length line c h p zero = omega arith
lines_length line c h p (suc n) = simp length-append (omega (arith, h p, lines_length line c h (suc p) n))

pub patterns_length : length patterns ≡ 20736
patterns_length = lines_length _ 81 (λ p. line_length 8 8 [] (marked 8 p) p) 0 256

-- the line at a miss is two bytes
table_length : (k : ℕ) → length (tree_table k) ≡ 2 ^ (k - 1) * (k - 1 + (2 + (k * suc (k - 1) + 1)))
unfolding tree_table missed
table_length k = lines_length _ _ (λ p. line_length k (k - 1) _ _ p) 0 (2 ^ (k - 1))

pub trees_length : length tree_patterns ≡ 9664
trees_length = simp length-append (omega (arith, table_length 2, table_length 4, table_length 8))

-- bytes that the text fills are the text
pub whole : {l m text : List ℕ} {to : ℕ} → length l ≡ length text → Put l 0 text to m → m ≡ text
whole {l} {m} {text} {to} e p =
    let w = put_whole (record { room = omega arith }) p in
    let n : drop to l ≡ [] = drop_of_length-le l {i = to} (omega (arith, w.0)) in
    w.1 ∙ ap (λ (t : List ℕ). text ++ t) n ∙ append-nil text

-- a text that is the same is put as well
pub put_same : {l m s t : List ℕ} {at to : ℕ} → s ≡ t → Put l at s to m → Put l at t to m
put_same {l} {m} {at = at} {to = to} e p = subst (λ (text : List ℕ). Put l at text to m) e p

-- the same bits have the same digits
pub same_bits : (w : ℕ) {x y : ℕ} → x ≡ y → binary x w ≡ binary y w
same_bits w e = ap (λ (b : ℕ). binary b w) e

-- before a loop all of n is left
pub all_left : {old : List ℕ} {at : ℕ} (text : ℕ → List ℕ) (n : ℕ) → Left old at (text n) old at (text (n - 0))
all_left text n = let e : n - 0 ≡ n = omega arith in rw e left_start

module _ {old text l : List ℕ} {at to : ℕ} where
  pub next_digit : (bits i : ℕ) → 0 < i → Left old at text l to (binary bits i) → Left old at text l to (((48 + bit_at bits (i - 1)) ∷ []) ++ binary bits (i - 1))
  unfolding binary
  next_digit bits i h f =
      let e : i ≡ suc (i - 1) = omega arith in
      rw e at f

  pub no_digit : (bits i : ℕ) → i ≤ 0 → Left old at text l to (binary bits i) → Left old at text l to []
  unfolding binary
  no_digit bits i h f =
      let e : i ≡ 0 = omega arith in
      rw e at f

  pub next_line : (after : ℕ → ℕ) (w k j : ℕ) → j < k → Left old at text l to (next_from after w j (k - j)) →
      Left old at text l to ((bytes " " ++ binary (after j) w) ++ next_from after w (j + 1) (k - (j + 1)))
  unfolding next_from
  next_line after w k j h f =
      let e : k - j ≡ suc (k - suc j) = omega arith in
      rw add-one (rw e at f)

  pub no_line : (after : ℕ → ℕ) (w k j : ℕ) → k ≤ j → Left old at text l to (next_from after w j (k - j)) → Left old at text l to []
  unfolding next_from
  no_line after w k j h f =
      let e : k - j ≡ 0 = omega arith in
      rw e at f

  pub next_pattern : (line : ℕ → List ℕ) (n p : ℕ) → p < n → Left old at text l to (patterns_from line p (n - p)) →
      Left old at text l to (line p ++ patterns_from line (p + 1) (n - (p + 1)))
  unfolding patterns_from
  next_pattern line n p h f =
      let e : n - p ≡ suc (n - suc p) = omega arith in
      rw add-one (rw e at f)

  pub no_pattern : (line : ℕ → List ℕ) (n p : ℕ) → n ≤ p → Left old at text l to (patterns_from line p (n - p)) → Left old at text l to []
  unfolding patterns_from
  no_pattern line n p h f =
      let e : n - p ≡ 0 = omega arith in
      rw e at f
