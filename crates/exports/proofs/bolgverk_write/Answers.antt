-- `exports::bolgverk_write` tells what `bolgverk::write` answers.
use Rattle.exports.proofs.Calling.{write_call}
use Rattle.exports.proofs.bolgverk_write.Goals as goal

pub returns : goal.returns
returns c =
    write_call _ _ _ _ _ _ _ _ _ _ _ _ _ _ _ _ _ c.write-answer.ensures c.write.ensures.value c.write.ensures.length_after c.write.ensures.place_after c.write.ensures.second_after
