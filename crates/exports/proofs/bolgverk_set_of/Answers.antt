-- `exports::bolgverk_set_of` tells what `bolgverk::set_of` answers.
use Rattle.exports.proofs.Calling.{set_call}
use Rattle.exports.proofs.bolgverk_set_of.Goals as goal

pub returns : goal.returns
returns c =
    set_call _ _ _ _ _ _ c.set_of.ensures c.set_of-2.ensures.value c.set_of-2.ensures.set_after
