-- `frames::front`: parts that are put one after another are one text, the head and the value.
use borrow.Author.Rules.{rules}
use Rattle.puts.proofs.Putting.{put_then}
use Rattle.frames.specs.Frames.{head, front}
use Rattle.frames.proofs.front.Goals as goal

pub returns : goal.returns
unfolding head front
returns c =
    record {
      put = put_then
          (put_then c.put-after_operation.ensures.put
          (put_then c.put-after_number.ensures.put (put_then c.put-after_place.ensures.put c.put-after_second.ensures.put)))
          c.put.ensures.put;
      value = search rules;
    }
