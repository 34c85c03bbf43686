-- `writer::sections::put_trailer`: offsets, numbers and marks are its 32 bytes.
use Rattle.paper.specs.OneFact.{words}
use Rattle.paper.specs.Writing.{trailer_bytes}
use Rattle.puts.proofs.Putting.{put_then}
use Rattle.writer.proofs.sections.put_trailer.Goals as goal

pub returns-clause-put : goal.returns-clause-put
unfolding words trailer_bytes
returns-clause-put c = put_then c.put_offsets-numbers.ensures.put (put_then c.put_words-marks.ensures.put c.put_marks.ensures.put)
