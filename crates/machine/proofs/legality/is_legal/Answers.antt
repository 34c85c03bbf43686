-- The three tests of a legal state, in the definition's order.
use Rattle.paper.specs.Machines.{legal}
use Rattle.machine.proofs.legality.is_legal.Goals as goal

pub returns : goal.returns
unfolding legal
returns c = rw (c.is_distinct.ensures, c.is_empty_from.ensures, c.has_legal_bits.ensures)
