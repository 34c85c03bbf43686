-- `answers::checks::checked` asks by the arguments in their order, on the file and the numbers that are lent.
use Rattle.answers.proofs.Asking.{check_asked_lem}
use Rattle.answers.proofs.checks.checked.Goals as goal

pub returns : goal.returns
returns c =
    let r = check_asked_lem c.args.request.now c.args.lent.now c.u16_at-interruptions.ensures c.u32_at-n.ensures c.requires.numbers_len c.read_list.ensures c.check.ensures in
    record { value = r.0; numbers_after = r.1 }
