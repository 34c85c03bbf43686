-- One branch a policy; a legal state has what its step asks for (`legal_ready`, `nmru_bits`).
use mathlib.Core.Path.{sym, ◌∙◌, ap}
use Rattle.paper.specs.declared.Shift.{Shift}
use Rattle.paper.specs.Machines.{step}
use Rattle.paper.specs.PolicyNumbers.{number_of}
use Rattle.paper.specs.Shifts.{shift_at}
use Rattle.paper.proofs.Says.{says_true}
use Rattle.paper.proofs.States.{says_offered}
use Rattle.paper.proofs.MoveLaws.{legal_ready, nmru_bits}
use Rattle.machine.proofs.take_step.Goals as goal

pub shift_of-requires : goal.shift_of-requires
shift_of-requires c = (says_true (says_offered _ _) c.requires.k_value).most

pub shift-shift-requires : goal.shift-shift-requires
shift-shift-requires c =
    let e = c.shift_of.ensures in
    e ∙ ap (shift_at c.args.k) (sym (ap (λ (t : Shift). t.weight) e))

pub lru-requires : goal.lru-requires
lru-requires c =
    record { ready = legal_ready _ _ _ c.requires.state_value (says_true (says_offered _ _) c.requires.k_value); block_nonzero = c.requires.block_nonzero; shift_value = c.shift-shift.ensures }

pub returns-in-Lru : goal.returns-in-Lru
unfolding step
returns-in-Lru c = rw c.in-Lru.is c.lru.ensures

pub kept_from-requires : goal.kept_from-requires
kept_from-requires c = (says_true (says_offered _ _) c.requires.k_value).most

pub fifo-requires : goal.fifo-requires
fifo-requires c =
    record { ready = legal_ready _ _ _ c.requires.state_value (says_true (says_offered _ _) c.requires.k_value); block_nonzero = c.requires.block_nonzero; beyond_value = c.kept_from.ensures }

pub returns-in-Fifo : goal.returns-in-Fifo
unfolding step
returns-in-Fifo c = rw c.in-Fifo.is c.fifo.ensures

pub line-line-requires : goal.line-line-requires
line-line-requires c =
    record { ready = legal_ready _ _ _ c.requires.state_value (says_true (says_offered _ _) c.requires.k_value); block_nonzero = c.requires.block_nonzero; bits_bound = nmru_bits _ _ _ c.requires.state_value (ap number_of c.in-Nmru.is) }

pub nmru-requires : goal.nmru-requires
nmru-requires c =
    record { ready = legal_ready _ _ _ c.requires.state_value (says_true (says_offered _ _) c.requires.k_value); bits_bound = nmru_bits _ _ _ c.requires.state_value (ap number_of c.in-Nmru.is); line_value = c.line-line.ensures }

pub returns-in-Nmru : goal.returns-in-Nmru
unfolding step
returns-in-Nmru c = rw c.in-Nmru.is c.nmru.ensures

pub step_alone-requires : goal.step_alone-requires
step_alone-requires c =
    let e = c.in-Tree.is in
    record { k_value = rw e at c.requires.k_value; state_value = rw e at c.requires.state_value; block_nonzero = c.requires.block_nonzero }

pub returns-in-Tree : goal.returns-in-Tree
unfolding step
returns-in-Tree c = rw c.in-Tree.is c.step_alone.ensures
