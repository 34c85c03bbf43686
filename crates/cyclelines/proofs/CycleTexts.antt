-- What is printed, by what the operation answers, and that 65,537 bytes of the input are enough to read.
use Rattle.std.specs.Prelude.{Result, Ok, Err}
use Prim.Native.Nat.{ℕ, ◌+◌, ◌-◌, ◌*◌, ◌^◌, ◌≤◌, ◌<◌}
use native.Mathlib.Omega.{arith}
use native.Mathlib.Decide.{dec_le}
use mathlib.Core.Path.{◌≡◌, refl, sym, ◌∙◌, ap}
use mathlib.Core.Bool.{true, false}
use mathlib.Core.Logic.{dite}
use mathlib.Core.List.{List}
use lib.Dec.{leb}
use lib.ListN.{length, take, drop}
use lib.Seq.{take_all, length-take-le}
use borrow.Author.Tests.{lt-leb, le-leb}
use Rattle.paper.specs.declared.Refusal.{Refusal}
use Rattle.paper.specs.Answers.{refuse}
use Rattle.paper.specs.Ceilings.{longest_input}
use Rattle.paper.specs.Files.{u16_at, u32_at}
use Rattle.paper.specs.Listings.{bytes, line, refusal_line}
use Rattle.paper.specs.Times.{file_time_answer}
use Rattle.paper.proofs.Says.{says_true, says_and, says_le}
use Rattle.puts.specs.Put.{Fits}
use Rattle.print.proofs.Lengths.{short, line_length}
use Rattle.frames.specs.Little.{u32s}
use Rattle.frames.proofs.FilledLists.{part_rest}
use Rattle.bolgverk.specs.Promises.{TimePromise}
use Rattle.bolgverk.proofs.Determined.{time_answer_lem}
use Rattle.cyclelines.specs.CycleLines.{many_in, file_from, whole, time_line, printed_for, cycles_of}

-- an input that is whole, in numbers
pub whole_is : (input : List ℕ) → whole input ≡ true → (8 ≤ length input) × ((length input ≤ longest_input) × (file_from input ≤ length input))
unfolding whole
whole_is input h = says_true (says_and (says_le 8 (length input)) (says_and (says_le (length input) longest_input) (says_le (file_from input) (length input)))) h

-- a line of 26 bytes at most
pub time_fits : (l : List ℕ) (n : ℕ) → n < 2 ^ 64 → 71 ≤ length l → Fits l 0 (line (bytes "time ") n)
time_fits l n h r = record { room = omega (arith, line_length (bytes "time ") n, short n h) }

module _ (file costs : List ℕ) (penalty p : ℕ) {a : (Result ℕ Refusal)} (k : TimePromise file costs penalty p a) where
  pub refused_as : (r : Refusal) → a ≡ Err r → refusal_line r ≡ time_line (file_time_answer file costs penalty p)
  refused_as r e = ap time_line (sym e ∙ time_answer_lem file costs penalty p a k)

  pub told_as : (n : ℕ) → a ≡ Ok n → line (bytes "time ") n ≡ time_line (file_time_answer file costs penalty p)
  told_as n e = ap time_line (sym e ∙ time_answer_lem file costs penalty p a k)

-- what is read of an input that is whole
pub read_text : (input : List ℕ) {costs : List ℕ} {penalty i m from : ℕ} → penalty ≡ u32_at input 0 → i ≡ u16_at input 4 → m ≡ many_in input → costs ≡ u32s (drop 8 input) m → from ≡ 8 + 4 * m →
    time_line (file_time_answer (take (length input - from) (drop from input)) costs penalty i) ≡ printed_for input
unfolding printed_for
read_text input {costs} {penalty} {i} {m} {from} q j k c f =
    rw (← q, ← j, ← k, ← c) (ap (λ (l : List ℕ). time_line (file_time_answer l costs penalty i)) (part_rest input from ∙ ap (λ (n : ℕ). drop n input) f))

pub whole_text : (input : List ℕ) → whole input ≡ true → printed_for input ≡ cycles_of input
unfolding cycles_of
whole_text input e = rw e refl

pub not_whole_text : (input : List ℕ) (r : Refusal) → whole input ≡ false → r ≡ refuse 28 0 → refusal_line r ≡ cycles_of input
unfolding cycles_of
not_whole_text input r e f = rw e (ap refusal_line f)

pub too_short : (input : List ℕ) → length input < 8 → false ≡ whole input
unfolding whole
too_short input h = rw (lt-leb 8 (length input) h) refl

pub too_long : (input : List ℕ) → longest_input < length input → false ≡ whole input
unfolding whole
too_long input h = rw (le-leb 8 (length input) (omega arith), lt-leb (length input) longest_input h) refl

-- an input that is neither is whole where its costs fit
pub costs_test : (input : List ℕ) {m : ℕ} → 8 ≤ length input → length input ≤ longest_input → m ≡ many_in input → leb (8 + 4 * m) (length input) ≡ whole input
unfolding whole
costs_test input h k e =
    rw (le-leb 8 (length input) h, le-leb (length input) longest_input k) (ap (λ (n : ℕ). leb (8 + 4 * n) (length input)) e)

-- one byte more than is allowed shows that the input is longer
pub cycles_read : (input : List ℕ) → cycles_of (take 65537 input) ≡ cycles_of input
cycles_read input =
    dite (dec_le (length input) 65537)
    (λ (h : length input ≤ 65537). ap cycles_of (take_all 65537 input h))
    (λ (h : ¬ (length input ≤ 65537)).
    sym (not_whole_text (take 65537 input) (refuse 28 0) (sym (too_long (take 65537 input) (omega (arith, length-take-le 65537 input (omega arith))))) refl)
    ∙ not_whole_text input (refuse 28 0) (sym (too_long input (omega arith))) refl)
