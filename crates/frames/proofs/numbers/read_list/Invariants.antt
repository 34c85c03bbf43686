-- `frames::numbers::read_list`: the first i are the numbers that stand in the bytes, and at the end all are.
use Prim.Native.Nat.{◌*◌}
use Rattle.frames.proofs.FilledLists.{Filled}
use Rattle.frames.proofs.numbers.read_list.Given as goal

abbrev pub invariant-loop-i : goal.invariant-loop-i
invariant-loop-i g l =
    let n = g.N.Number in
    Filled (λ k. n.number_at l.bytes (n.WIDTH * k)) l.initial.numbers l.i l.numbers
