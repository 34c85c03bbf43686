-- `gather::rows::put_slots`: one slot more in each turn.
use mathlib.Core.Path.{◌≡◌}
use lib.ListN.{length}
use Rattle.search.specs.Steps.{put_slots}
use Rattle.gather.proofs.rows.put_slots.Given as goal

abbrev pub invariant-loop-i : goal.invariant-loop-i
invariant-loop-i l = (l.all ≡ put_slots l.k l.r l.initial.all l.i) × (length l.all ≡ 8)
