-- `exports::bolgverk_find` tells what `bolgverk::find` answers.
use Rattle.exports.proofs.Calling.{find_call}
use Rattle.exports.proofs.bolgverk_find.Goals as goal

pub returns : goal.returns
returns c =
    find_call _ _ _ _ _ _ _ _ _ _ c.find.ensures c.find-2.ensures.value c.find-2.ensures.limit_after c.find-2.ensures.place_after
