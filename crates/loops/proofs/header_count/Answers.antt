-- The front of the loops is lent: what is counted over it is counted over the first j + 1 records (`count_front`).
use Prim.Native.Nat.{◌+◌}
use native.Mathlib.Omega.{arith}
use native.Mathlib.Numerals.{add-one}
use mathlib.Core.Path.{refl, ◌∙◌}
use Rattle.loops.proofs.Shown.{count_front}
use Rattle.loops.proofs.header_count.Goals as goal

pub returns : goal.returns
returns c = c.count.ensures ∙ count_front c.args.loops.now (c.args.j + 1) _ (omega arith) ∙ rw add-one refl
