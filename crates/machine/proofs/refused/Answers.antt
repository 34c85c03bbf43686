-- The state goes back as it came, with the refusal.
use Rattle.machine.proofs.refused.Goals as goal

pub returns : goal.returns
returns c = rw c.refuse-why.ensures
