-- What is printed, by what the operation answers, and that 2,097,155 bytes of the input are enough to read.
use Rattle.std.specs.Prelude.{Result, Ok, Err}
use Prim.Native.Nat.{ℕ, ◌+◌, ◌-◌, ◌*◌, ◌/◌, ◌%◌, ◌^◌, ◌≤◌, ◌<◌}
use native.Mathlib.Omega.{arith}
use native.Mathlib.Decide.{dec_le}
use mathlib.Core.Path.{◌≡◌, refl, sym, ◌∙◌, ap, ap₂}
use mathlib.Core.Bool.{true, false}
use mathlib.Core.Logic.{dite}
use mathlib.Core.List.{List}
use lib.ListN.{length, get_or, take, drop}
use lib.Seq.{take_all, length-take-le}
use borrow.Author.Tests.{lt-ltb, lt-leb, le-leb}
use Rattle.paper.specs.declared.Refusal.{Refusal}
use Rattle.paper.specs.AllWays.{misses_with, ways_verdict, counted, all_ways}
use Rattle.paper.specs.Answers.{Verdict, refuse}
use Rattle.paper.specs.Listings.{bytes, decimal, decimal_in, lines_from, refusal_line}
use Rattle.paper.specs.Lists.{table}
use Rattle.paper.specs.Machines.{set_count}
use Rattle.paper.proofs.Says.{says_true, says_and, says_le, says_eq}
use Rattle.frames.specs.Little.{u16s}
use Rattle.bolgverk.specs.Promises.{WaysPromise}
use Rattle.bolgverk.proofs.Determined.{ways_answer}
use Rattle.listing.proofs.LongestListing.{widths, lines_length}
use Rattle.waylines.specs.WayLines.{longest_input, whole, sets_in, trace_in, way_lines, count_lines, said_for, printed_for, ways_of}

-- an input that is whole, in numbers
pub whole_is : (n : ℕ) → whole n ≡ true → (2 ≤ n) × ((n ≤ longest_input) × (n % 2 ≡ 0))
unfolding whole
whole_is n h = says_true (says_and (says_le 2 n) (says_and (says_le n longest_input) (says_eq (n % 2) 0))) h

-- eight lines of 28 bytes at most
widths_8 : widths 1 8 ≡ 8
unfolding widths decimal decimal_in
widths_8 = refl

pub counts_length : (counts : List ℕ) → ((i : ℕ) → get_or counts i 0 < 2 ^ 64) → length (count_lines counts) ≤ 224
counts_length counts small = omega (arith, lines_length (bytes "ways ") (λ w. get_or counts (w - 1) 0) (λ w. small (w - 1)) 1 8, widths_8)

module _ (sets : ℕ) (blocks : List ℕ) where
  counted_lines : count_lines (table (λ j. misses_with sets blocks (1 + j)) 8) ≡ way_lines (misses_with sets blocks)
  unfolding lines_from table
  counted_lines = refl

  -- what is printed of a verdict, from what the operation answers by it
  said_refused : (v : Verdict) (r : Refusal) → counted sets blocks v ≡ Err r → refusal_line r ≡ said_for sets blocks v
  said_refused (Ok tt) r e =
      let z : ◌≡◌ {A = ℕ} 0 1 = cc in
      absurd (omega arith)
  said_refused (Err x) r e =
      let q : x ≡ r = cc in
      ap refusal_line (sym q)

  said_counts : (v : Verdict) (counts : List ℕ) → counted sets blocks v ≡ Ok counts → count_lines counts ≡ said_for sets blocks v
  unfolding table
  said_counts (Ok tt) counts e =
      let q : table (λ j. misses_with sets blocks (1 + j)) 8 ≡ counts = cc in
      ap count_lines (sym q) ∙ counted_lines
  said_counts (Err r) counts e =
      let z : ◌≡◌ {A = ℕ} 0 1 = cc in
      absurd (omega arith)

  module _ {a : Result (List ℕ) Refusal} (p : WaysPromise sets blocks a) where
    answer_as : a ≡ counted sets blocks (ways_verdict sets blocks)
    unfolding all_ways
    answer_as = ways_answer sets blocks a p

    pub refused_as : (r : Refusal) → a ≡ Err r → refusal_line r ≡ printed_for sets blocks
    unfolding printed_for
    refused_as r e = said_refused _ r (sym answer_as ∙ e)

    pub accepted_as : (counts : List ℕ) → a ≡ Ok counts → count_lines counts ≡ printed_for sets blocks
    unfolding printed_for
    accepted_as counts e = said_counts _ counts (sym answer_as ∙ e)

  no_count : 255 < sets → set_count sets ≡ false
  unfolding set_count
  no_count h = rw (lt-ltb 0 sets (omega arith), lt-leb sets 64 (omega arith)) refl

  -- a number of sets that fits no byte is refused whatever the trace is
  pub many_sets : (r : Refusal) → 255 < sets → r ≡ refuse 3 0 → refusal_line r ≡ printed_for sets blocks
  unfolding printed_for ways_verdict
  many_sets r h e = rw (no_count h) (ap refusal_line e)

-- what is read of an input that is whole
pub read_text : (input : List ℕ) (n : ℕ) {sets : ℕ} {blocks : List ℕ} → sets ≡ sets_in input → blocks ≡ u16s (drop 2 input) n → 2 + 2 * n ≡ length input → printed_for sets blocks ≡ printed_for (sets_in input) (trace_in input)
read_text input n e b l =
    let m : n ≡ length input / 2 - 1 = omega (arith, l) in
    ap₂ printed_for e (b ∙ ap (λ (k : ℕ). u16s (drop 2 input) k) m)

pub whole_text : (input : List ℕ) → whole (length input) ≡ true → printed_for (sets_in input) (trace_in input) ≡ ways_of input
unfolding ways_of
whole_text input e = rw e refl

pub not_whole_text : (input : List ℕ) (r : Refusal) → whole (length input) ≡ false → r ≡ refuse 28 0 → refusal_line r ≡ ways_of input
unfolding ways_of
not_whole_text input r e f = rw e (ap refusal_line f)

longer : (n : ℕ) → longest_input < n → whole n ≡ false
unfolding whole
longer n h = rw (le-leb 2 n (omega arith), lt-leb n longest_input h) refl

-- one byte more than is allowed shows that the input is longer
pub ways_read : (input : List ℕ) → ways_of (take 2097155 input) ≡ ways_of input
ways_read input =
    dite (dec_le (length input) 2097155)
    (λ (h : length input ≤ 2097155). ap ways_of (take_all 2097155 input h))
    (λ (h : ¬ (length input ≤ 2097155)).
    sym (not_whole_text (take 2097155 input) (refuse 28 0) (longer (length (take 2097155 input)) (omega (arith, length-take-le 2097155 input (omega arith)))) refl)
    ∙ not_whole_text input (refuse 28 0) (longer (length input) (omega arith)) refl)
