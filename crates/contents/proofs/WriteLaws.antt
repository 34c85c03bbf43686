-- Writing and reading undo each other: the two halves of what the writer promises.
use Prim.Native.Nat.{ℕ}
use mathlib.Core.List.{List}
use Rattle.paper.specs.Writing.{FileContent, ReadsBack, WritesBack}
use Rattle.contents.proofs.Rereading.{written_passes, written_reads, written_fits}
use Rattle.contents.proofs.Rewriting.{written_again, written_taken}

pub reads_back : (c : FileContent) (room : ℕ) → ReadsBack c room
reads_back c room h = (written_passes c room h, written_reads c room h, written_fits c room h)

pub writes_back : (f : List ℕ) → WritesBack f
writes_back f b h = (written_again f b h, written_taken f b h)
