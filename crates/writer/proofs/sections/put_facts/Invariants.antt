-- `writer::sections::put_facts`: a fact after another; r counts the rows before it.
use Prim.Native.Nat.{◌+◌, ◌*◌}
use mathlib.Core.Path.{◌≡◌}
use Rattle.paper.specs.Writing.{rows_before, fact_bytes}
use Rattle.writer.specs.Room.{of_facts}
use Rattle.writer.proofs.Joined.{Joined}
use Rattle.writer.proofs.sections.put_facts.Given as goal

abbrev pub invariant-loop-i : goal.invariant-loop-i
invariant-loop-i l =
    Joined (fact_bytes (of_facts l.heads l.rows)) l.initial.out l.at l.out l.to l.i × (l.r ≡ rows_before (of_facts l.heads l.rows) l.i) × (l.to ≡ l.at + 6 * l.i + 16 * l.r)
