-- `answers::ways::put_answer`: head and counts are one text, and it fills the bytes.
use borrow.Author.Rules.{rules}
use Rattle.puts.proofs.Putting.{put_then}
use Rattle.frames.specs.Frames.{ways_text}
use Rattle.frames.proofs.Answering.{put_all}
use Rattle.answers.proofs.ways.put_answer.Goals as goal

pub returns : goal.returns
unfolding ways_text
returns c =
    put_all {l = c.args.out.now} (search rules) (put_then c.front-after_head.ensures.put c.put_list.ensures.put)
