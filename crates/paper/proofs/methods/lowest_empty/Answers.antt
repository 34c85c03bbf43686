-- `paper::methods::lowest_empty`: the first empty line stops the loop; before it none was empty.
use native.Mathlib.Omega.{arith}
use native.Mathlib.Numerals.{add-one}
use borrow.Author.Rules.{rules}
use Rattle.paper.specs.Machines.{none}
use Rattle.paper.proofs.LineLaws.{line_here, line_on, line_end}
use Rattle.paper.proofs.methods.lowest_empty.Goals as goal

pub returns-then-lines-i : goal.returns-then-lines-i
returns-then-lines-i c =
    let v = c.loop-i in
    record { value = omega (arith, v.invariant.1, line_here c.args.lines v.i (omega arith) none c.if-lines-i.true); upper_bound = omega arith }

pub loop-i-preserved : goal.loop-i-preserved
loop-i-preserved c =
    let v = c.loop-i in
    (omega arith, rw add-one (omega (arith, v.invariant.1, line_on c.args.lines v.i (omega arith) none c.if-lines-i.false)))

pub returns : goal.returns
returns c =
    let v = c.loop-i in
    record { value = omega (arith, v.invariant.1, line_end c.args.lines v.i none (omega arith)); upper_bound = omega arith }

pub loop-i-init : goal.loop-i-init
loop-i-init c = (search rules, omega arith)
