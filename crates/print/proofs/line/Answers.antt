-- `print::line`: each part fits because the whole line does, and put one after another they are it.
use Rattle.paper.specs.Listings.{line}
use Rattle.puts.proofs.Putting.{first_fits, then_fits, put_then}
use Rattle.print.proofs.line.Goals as goal

pub word-after_word-requires : goal.word-after_word-requires
unfolding line
word-after_word-requires c = first_fits _ _ c.requires

pub number-after_number-requires : goal.number-after_number-requires
unfolding line
number-after_number-requires c =
    first_fits _ _ (then_fits _ c.word-after_word.ensures c.requires)

pub word-requires : goal.word-requires
unfolding line
word-requires c =
    then_fits _ c.number-after_number.ensures (then_fits _ c.word-after_word.ensures c.requires)

pub returns : goal.returns
unfolding line
returns c =
    put_then c.word-after_word.ensures (put_then c.number-after_number.ensures c.word.ensures)
