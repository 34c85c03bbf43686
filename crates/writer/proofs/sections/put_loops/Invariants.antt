-- `writer::sections::put_loops`: a loop after another.
use Prim.Native.Nat.{◌+◌, ◌*◌}
use mathlib.Core.Path.{◌≡◌}
use Rattle.paper.specs.Records.{loop_size}
use Rattle.paper.specs.Writing.{loop_bytes, loop_in}
use Rattle.writer.specs.Room.{of_loops}
use Rattle.writer.proofs.Joined.{Joined}
use Rattle.writer.proofs.sections.put_loops.Given as goal

abbrev pub invariant-loop-j : goal.invariant-loop-j
invariant-loop-j l =
    Joined (λ k. loop_bytes l.trailer.version (loop_in (of_loops l.trailer.version l.loops) k)) l.initial.out l.at l.out l.to l.j × (l.to ≡ l.at + loop_size l.trailer.version * l.j)
