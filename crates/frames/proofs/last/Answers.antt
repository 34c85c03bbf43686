-- `frames::last`: parts that are put one after another are one text, and it fills the bytes.
use borrow.Author.Rules.{rules}
use Rattle.puts.proofs.Putting.{put_then}
use Rattle.frames.specs.Frames.{last_frame}
use Rattle.frames.proofs.Answering.{put_all}
use Rattle.frames.proofs.last.Goals as goal

pub returns : goal.returns
unfolding last_frame
returns c =
    put_all (search rules) (put_then c.put-after_zero.ensures.put (put_then c.put-after_why.ensures.put c.put.ensures.put))
