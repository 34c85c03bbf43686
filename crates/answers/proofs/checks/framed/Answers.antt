-- `answers::checks::framed` puts the head and then the numbers, which fill the bytes from its place on.
use borrow.Author.Rules.{rules}
use Rattle.puts.proofs.Putting.{put_then}
use Rattle.frames.proofs.Answering.{answered_as, answered_whole}
use Rattle.answers.proofs.Asking.{check_framed}
use Rattle.answers.proofs.checks.framed.Goals as goal

pub returns : goal.returns
returns c =
    answered_as (check_framed c.args.request.now c.args.bytes.now c.check-head.ensures c.checked.ensures.value c.checked.ensures.numbers_after)
    (answered_whole {l = c.args.bytes.now} (search rules) (put_then c.front_before-at.ensures.put c.put_list.ensures.put))
