-- `print::line_of_two`: each part fits because the whole line does, and put one after another they are it.
use Rattle.paper.specs.Listings.{line_of_two}
use Rattle.puts.proofs.Putting.{first_fits, then_fits, put_then}
use Rattle.print.proofs.line_of_two.Goals as goal

pub word-after_word-requires : goal.word-after_word-requires
unfolding line_of_two
word-after_word-requires c = first_fits _ _ c.requires

pub number-after_first-requires : goal.number-after_first-requires
unfolding line_of_two
number-after_first-requires c =
    first_fits _ _ (then_fits _ c.word-after_word.ensures c.requires)

pub line-requires : goal.line-requires
unfolding line_of_two
line-requires c =
    then_fits _ c.number-after_first.ensures (then_fits _ c.word-after_word.ensures c.requires)

pub returns : goal.returns
unfolding line_of_two
returns c =
    put_then c.word-after_word.ensures (put_then c.number-after_first.ensures c.line.ensures)
