-- The bits are below the policy's number.
use Rattle.paper.specs.Machines.{legal_bits}
use Rattle.machine.proofs.legality.has_legal_bits.Goals as goal

pub returns : goal.returns
unfolding legal_bits
returns c = rw c.bits_below.ensures
