-- `answers::times::timed` asks by the arguments in their order, on the file and the costs that are lent.
use Rattle.answers.proofs.AskingTimes.{time_asked_lem}
use Rattle.answers.proofs.times.timed.Goals as goal

pub returns : goal.returns
returns c =
    time_asked_lem c.args.request.now c.args.lent.now c.u16_at-interruptions.ensures c.u32_at-penalty.ensures c.u32_at-n.ensures c.requires.costs_len c.read_list_at.ensures.numbers_after c.time.ensures
