-- `writer::bytes::put_words` puts one number after another: after i of them the others are left.
use borrow.Author.Rules.{rules}
use Rattle.writer.proofs.Words.{begun_more, begun_end}
use Rattle.writer.proofs.bytes.put_words.Goals as goal

pub loop-x-preserved : goal.loop-x-preserved
loop-x-preserved c =
    begun_more c.loop-x.invariant c.loop-x-test.true c.put_word-to.ensures.put c.put_word-to.ensures.value

pub returns : goal.returns
returns c =
    record { put = begun_end c.loop-x.invariant c.loop-x-test.false; value = search rules }
