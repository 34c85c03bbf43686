-- `answers::ways::counted` asks by the arguments, on the blocks that are lent.
use Rattle.answers.proofs.AskingWays.{ways_asked_lem}
use Rattle.answers.proofs.ways.counted.Goals as goal

pub returns : goal.returns
returns c = ways_asked_lem _ _ c.requires.blocks_len c.read_list.ensures c.all_ways.ensures
