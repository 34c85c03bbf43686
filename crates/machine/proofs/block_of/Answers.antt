-- Line size first, then the quotient: below 65,535 it fits 16 bits.
use Prim.Native.Nat.{ℕ, zero, suc, ◌<◌}
use native.Mathlib.Omega.{arith}
use mathlib.Core.Path.{◌≡◌, sym, ◌∙◌}
use mathlib.Core.Bool.{true, false≢true}
use borrow.Author.Tests.{lt-ltb, le-ltb}
use Rattle.paper.specs.Machines.{stands}
use Rattle.paper.specs.Operations.{line_size, block_answer}
use Rattle.machine.proofs.block_of.Goals as goal

size_low : (n : ℕ) → line_size n ≡ true → 0 < n
unfolding line_size stands
size_low zero e = absurd (false≢true e)
size_low (suc n) e = omega arith

pub returns-then-not-is_line_size : goal.returns-then-not-is_line_size
unfolding block_answer
returns-then-not-is_line_size c = rw (← c.is_line_size.ensures, c.if-not-is_line_size.true, ← c.refuse.ensures)

pub nonzero_div-q : goal.nonzero_div-q
nonzero_div-q c = size_low _ (sym c.is_line_size.ensures ∙ c.if-not-is_line_size.false)

pub returns-then-q-gt65534 : goal.returns-then-q-gt65534
unfolding block_answer
returns-then-q-gt65534 c = rw (← c.is_line_size.ensures, c.if-not-is_line_size.false, lt-ltb _ _ c.if-q-gt65534.true, ← c.refuse-then-q-gt65534.ensures)

pub returns : goal.returns
unfolding block_answer
returns c = rw (← c.is_line_size.ensures, c.if-not-is_line_size.false, le-ltb _ _ c.if-q-gt65534.false)
