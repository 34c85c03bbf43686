-- `writer::bytes::put_words` puts one number after another: after i of them the others are left.
use Rattle.writer.proofs.Words.{Begun}
use Rattle.writer.proofs.bytes.put_words.Given as goal

abbrev pub invariant-loop-x : goal.invariant-loop-x
invariant-loop-x l = Begun l.initial.out l.at l.list l.out l.to l.x-index
