-- `answers::writes::written` asks by the arguments in their order, on the lists and the bytes that are lent.
use mathlib.Core.Path.{◌∙◌}
use Rattle.answers.proofs.Asking.{tail_left}
use Rattle.answers.proofs.AskingWrites.{write_asked_lem}
use Rattle.answers.proofs.writes.written.Goals as goal

pub returns : goal.returns
returns c =
    let a = write_asked_lem c.args.request.now c.args.bytes.now c.args.at c.write.ensures in
    record { value = a.0; bytes_after = tail_left c.args.bytes.now _ c.args.at c.requires ∙ a.1 }
