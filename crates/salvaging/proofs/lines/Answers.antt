-- `salvaging::lines` puts one line after another: after i of them the others are left, and each takes at most 218 bytes.
use native.Mathlib.Nat.{sub-zero}
use native.Mathlib.Omega.{arith}
use Rattle.puts.proofs.Putting.{left_start, left_more, left_end}
use Rattle.salvaging.proofs.SaidTexts.{next_line, no_line}
use Rattle.salvaging.proofs.lines.Goals as goal

pub loop-i-init : goal.loop-i-init
loop-i-init c = (rw sub-zero left_start, omega arith)

pub line-to-requires : goal.line-to-requires
line-to-requires c =
    omega (arith, c.loop-i-test.true, c.loop-i.invariant.1, c.loop-i.invariant.0.kept, c.requires.n_in_bounds_2)

pub loop-i-preserved : goal.loop-i-preserved
loop-i-preserved c = (
  left_more c.line-to.ensures.put (next_line _ _ _ c.loop-i.invariant.0 (omega (arith, c.loop-i-test.true))),
  omega (arith, c.line-to.ensures.upper_bound, c.loop-i.invariant.1),
)

pub returns : goal.returns
returns c =
    record { put = left_end (no_line _ _ _ c.loop-i.invariant.0 (omega (arith, c.loop-i-test.false))); upper_bound = omega (arith, c.loop-i.invariant.1) }
