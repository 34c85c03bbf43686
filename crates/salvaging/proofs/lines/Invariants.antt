-- `salvaging::lines` puts one line after another: after i of them the others are left, and each takes at most 218 bytes.
use Prim.Native.Nat.{◌-◌, ◌*◌, ◌≤◌}
use lib.ListN.{get_or}
use Rattle.puts.proofs.Putting.{Left}
use Rattle.salvaging.specs.Said.{lines_from}
use Rattle.salvaging.proofs.lines.Given as goal

abbrev pub invariant-loop-i : goal.invariant-loop-i
invariant-loop-i l =
    (Left l.initial.out 0 (lines_from (λ k. get_or l.numbers k 0) 0 l.n) l.out l.to (lines_from (λ k. get_or l.numbers k 0) l.i (l.n - l.i))) × (l.to ≤ 218 * l.i)
