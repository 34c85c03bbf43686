-- `paper::NextBits::after`: the entry of the table is what the rule gives.
use native.Mathlib.Omega.{arith}
use Rattle.paper.proofs.Masks.{at_entry}
use Rattle.paper.proofs.NextBits.after.Goals as goal

pub returns : goal.returns
returns c =
    let a = c.args in
    at_entry {p = a.bits} {j = a.j} a.self.made (omega arith) c.requires
