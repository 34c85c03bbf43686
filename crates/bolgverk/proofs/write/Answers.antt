-- `bolgverk::write` tells what the verdict on the content does, and leaves the lent bytes as it does; the laws of contents say what that is worth.
use mathlib.Core.Path.{ap}
use Rattle.paper.specs.Answers.{told_write}
use Rattle.contents.proofs.WriteLaws.{reads_back, writes_back}
use Rattle.bolgverk.proofs.write.Goals as goal

pub returns : goal.returns
returns c =
    let w = c.write.ensures in
    record { told = ap told_write w.answer; bytes = w.bytes; reads = reads_back _ _; again = writes_back }
