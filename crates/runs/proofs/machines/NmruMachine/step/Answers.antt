-- NMRU's step in a run: the bits alone tell a missed block's line. Nothing is asked of a guess.
use mathlib.Core.Path.{refl}
use Rattle.paper.specs.Machines.{step}
use Rattle.runs.proofs.Standing.{stands_ready, stands_bits}
use Rattle.runs.proofs.machines.NmruMachine.step.Goals as goal

pub line_by_bits-line-requires-clause-ready : goal.line_by_bits-line-requires-clause-ready
line_by_bits-line-requires-clause-ready c = stands_ready c.requires

pub line_by_bits-line-requires-clause-bits_bound : goal.line_by_bits-line-requires-clause-bits_bound
line_by_bits-line-requires-clause-bits_bound c = stands_bits c.requires refl

pub nmru-requires-clause-ready : goal.nmru-requires-clause-ready
nmru-requires-clause-ready c = stands_ready c.requires

pub nmru-requires-clause-bits_bound : goal.nmru-requires-clause-bits_bound
nmru-requires-clause-bits_bound c = stands_bits c.requires refl

pub returns-clause-value : goal.returns-clause-value
unfolding step
returns-clause-value c = c.nmru.ensures
