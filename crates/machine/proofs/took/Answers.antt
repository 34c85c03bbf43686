-- A hit and a miss are told apart, and the state goes back.
use Rattle.machine.proofs.took.Goals as goal

pub returns-then-t : goal.returns-then-t
returns-then-t c = rw c.if-t.true

pub returns : goal.returns
returns c = rw c.if-t.false
