-- `exports::bolgverk_block_of` tells what `bolgverk::block_of` answers.
use Rattle.exports.proofs.Calling.{block_call}
use Rattle.exports.proofs.bolgverk_block_of.Goals as goal

pub returns : goal.returns
returns c =
    block_call _ _ _ _ _ _ c.block_of.ensures c.block_of-2.ensures.value c.block_of-2.ensures.block_after
