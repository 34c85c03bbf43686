-- `frames::numbers::put_list` puts one after another: after i of them the others are left.
use Rattle.frames.proofs.Bytes.{Begun}
use Rattle.frames.proofs.numbers.put_list.Given as goal

abbrev pub invariant-loop-number : goal.invariant-loop-number
invariant-loop-number g l =
    let n = g.N.Number in
    Begun n.WIDTH n.bytes_of l.initial.out l.at l.numbers l.out l.to l.number-index
