-- `exports::bolgverk_time` tells what `bolgverk::time` answers.
use Rattle.exports.proofs.Calling.{time_call}
use Rattle.exports.proofs.bolgverk_time.Goals as goal

pub returns : goal.returns
returns c =
    time_call _ _ _ _ _ _ _ _ _ _ c.time-answer.ensures c.time.ensures.value c.time.ensures.cycles_after c.time.ensures.place_after c.time.ensures.second_after
