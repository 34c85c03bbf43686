-- `exports::bolgverk_salvage` tells what `bolgverk::salvage` answers.
use Rattle.exports.proofs.Calling.{salvage_call}
use Rattle.exports.proofs.bolgverk_salvage.Goals as goal

pub returns : goal.returns
returns c =
    salvage_call _ _ _ _ _ _ _ _ _ _ _ _ c.salvage.ensures c.salvage-2.ensures.value c.salvage-2.ensures.length_after c.salvage-2.ensures.count_after c.salvage-2.ensures.place_after
