-- `frames::salvage_front`: the head with the length, and behind it the number of dropped facts.
use borrow.Author.Rules.{rules}
use Rattle.puts.proofs.Putting.{put_then}
use Rattle.frames.specs.Frames.{salvage_front}
use Rattle.frames.proofs.salvage_front.Goals as goal

pub returns : goal.returns
unfolding salvage_front
returns c =
    record { put = put_then c.front-after_length.ensures.put c.put.ensures.put; value = search rules }
