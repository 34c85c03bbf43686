-- `salvager::filling::put_trailer`: the trailer up to the number of facts, the number, and the rest. Each place is named by what was put there.
use Rattle.puts.proofs.Putting.{put_then}
use Rattle.salvager.proofs.KeptPut.{trailer_put}
use Rattle.salvager.proofs.filling.put_trailer.Goals as goal

pub returns : goal.returns
returns c =
    trailer_put c.args.file.now c.args.n _ c.end_of-end.ensures c.requires.trailer_size_in_bounds c.ranges.n.fits
    (put_then c.word-facts.ensures (put_then (rw c.to_le_bytes.ensures at c.word-marks.ensures) c.word.ensures))
