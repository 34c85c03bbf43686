-- `bolgverk::find` is `finder::find`, whose outcome is the promise.
use Rattle.bolgverk.proofs.find.Goals as goal

pub returns : goal.returns
returns c = record { outcome = c.find.ensures }
