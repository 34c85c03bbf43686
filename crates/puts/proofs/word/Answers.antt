-- `puts::word` puts its bytes one after another: after i of them the others are left.
use native.Mathlib.Numerals.{add-one}
use native.Mathlib.Nat.{add-zero}
use native.Mathlib.Omega.{arith}
use Prim.Native.Nat.{◌+◌}
use mathlib.Core.Path.{◌≡◌, refl}
use lib.ListN.{length-drop, drop_of_length-le}
use lib.Seq.{drop-cons}
use Rattle.puts.proofs.Putting.{left_start, left_fits, left_more, left_end, put_one}
use Rattle.puts.proofs.word.Goals as goal

pub bounds-out-at : goal.bounds-out-at
bounds-out-at c = omega (arith, (left_fits c.requires c.loop-i.invariant).room, length-drop c.loop-i.i c.args.word.now)

pub loop-i-preserved : goal.loop-i-preserved
loop-i-preserved c =
    let a = c.args in
    let l = c.loop-i in
    let next : a.at + (l.i + 1) ≡ a.at + l.i + 1 = omega arith in
    rw next (left_more put_one (rw (drop-cons a.word.now l.i 0 c.loop-i-test.true, ← add-one) at l.invariant))

pub returns : goal.returns
returns c =
    let put = left_end (rw (drop_of_length-le _ c.loop-i-test.false) at c.loop-i.invariant) in
    record { list = put.list; place = refl }

pub loop-i-init : goal.loop-i-init
loop-i-init c = rw (add-zero c.args.at) left_start
