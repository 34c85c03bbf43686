-- `answers::finds::framed` puts the head and then the rows, which fill the bytes from its place on.
use borrow.Author.Rules.{rules}
use Rattle.puts.proofs.Putting.{put_then}
use Rattle.frames.proofs.Answering.{answered_whole}
use Rattle.answers.proofs.AskingFinds.{find_framed}
use Rattle.answers.proofs.finds.framed.Goals as goal

pub returns : goal.returns
returns c =
    find_framed c.args.request.now c.args.bytes.now c.sought.result c.find-head.ensures c.sought.ensures
    (answered_whole {l = c.args.bytes.now} (search rules) (put_then c.front_before-at.ensures.put c.put_list.ensures.put))
