-- `exports::bolgverk_check` tells what `bolgverk::check` answers.
use Rattle.exports.proofs.Calling.{check_call}
use Rattle.exports.proofs.bolgverk_check.Goals as goal

pub returns : goal.returns
returns c =
    check_call _ _ _ _ _ _ _ _ c.check.ensures c.check-2.ensures.value c.check-2.ensures.place_after c.check-2.ensures.second_after
