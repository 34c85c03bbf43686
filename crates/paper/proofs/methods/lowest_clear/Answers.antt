-- `paper::methods::lowest_clear`: the bits that p's complement and p + 1 have in common are the lowest 0 of p (`victim_bit`).
use native.Mathlib.Omega.{arith}
use Rattle.paper.proofs.Masks.{victim_bit}
use Rattle.paper.proofs.methods.lowest_clear.Goals as goal

pub returns : goal.returns
returns c = victim_bit 16 c.args.k c.args.bits (omega arith) c.requires.1
