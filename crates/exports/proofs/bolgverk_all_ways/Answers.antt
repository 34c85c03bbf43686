-- `exports::bolgverk_all_ways` tells what `bolgverk::all_ways` answers.
use Rattle.exports.proofs.Calling.{ways_call}
use Rattle.exports.proofs.bolgverk_all_ways.Goals as goal

pub returns : goal.returns
returns c =
    ways_call _ _ _ _ _ _ _ c.all_ways.ensures c.all_ways-2.ensures.value c.all_ways-2.ensures.counts_after c.all_ways-2.ensures.place_after
