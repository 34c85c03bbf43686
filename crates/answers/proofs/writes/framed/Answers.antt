-- `answers::writes::framed` puts the head so that it ends where the lent bytes begin, which stay as the writer left them.
use borrow.Author.Rules.{rules}
use Rattle.frames.proofs.Answering.{answered_as, answered_before}
use Rattle.answers.proofs.AskingWrites.{write_framed}
use Rattle.answers.proofs.writes.framed.Goals as goal

pub front_before-requires : goal.front_before-requires
front_before-requires c =
    search (rules, c.read_lists-lent.ensures.value, c.requires.request_in_bounds)

pub returns : goal.returns
returns c =
    let l = c.written.new.bytes in
    answered_as (write_framed c.args.request.now c.args.bytes.now c.write-head.ensures c.written.ensures.value c.read_lists-lent.ensures.rows_after c.read_lists-lent.ensures.value)
    (answered_before {l = l} _ (search rules) c.front_before.ensures.put c.written.ensures.bytes_after)
