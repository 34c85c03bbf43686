-- `answers::finds::sought` asks by the arguments in their order, on the file and the rows that are lent.
use Rattle.answers.proofs.AskingFinds.{find_asked}
use Rattle.answers.proofs.finds.sought.Goals as goal

pub returns : goal.returns
returns c =
    find_asked c.args.request.now c.args.lent.now c.u16_at-scope.ensures c.u16_at-block.ensures c.u32_at-n.ensures c.requires.rows_len c.read_list.ensures c.find.ensures
