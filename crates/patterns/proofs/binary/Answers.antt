-- `patterns::binary` puts one digit after another: after the bit i those below it are left.
use native.Mathlib.Omega.{arith}
use borrow.Author.Rules.{rules}
use Rattle.paper.specs.Machines.{bit_at}
use Rattle.puts.proofs.Putting.{left_start, left_fits, left_more, left_end, put_one}
use Rattle.patterns.proofs.PatternTexts.{binary_length, next_digit, no_digit}
use Rattle.patterns.proofs.binary.Goals as goal

-- there is bounds-out-to for what is left
pub bounds-out-to : goal.bounds-out-to
bounds-out-to c =
    let l = c.loop-i in
    omega (arith, (left_fits c.requires.fits l.invariant.0).room, binary_length c.args.bits l.i, c.loop-i-test.true)

pub loop-i-preserved : goal.loop-i-preserved
unfolding bit_at
loop-i-preserved c = (left_more put_one (next_digit _ _ c.loop-i-test.true c.loop-i.invariant.0), search rules)

pub returns : goal.returns
returns c = left_end (no_digit _ _ c.loop-i-test.false c.loop-i.invariant.0)

pub loop-i-init : goal.loop-i-init
loop-i-init c = (left_start, search rules)

pub overflow_add-to : goal.overflow_add-to
overflow_add-to c = omega (arith, bounds-out-to c)
