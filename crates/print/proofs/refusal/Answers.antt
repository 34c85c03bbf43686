-- `print::refusal` is its parts, one after another; together they have at most 71 bytes.
use borrow.Author.Rules.{rules}
use Rattle.puts.proofs.Putting.{first_fits, then_fits, put_then}
use Rattle.print.proofs.Lengths.{refusal_fits}
use Rattle.print.proofs.refusal.Goals as goal

pub number-after_number-requires : goal.number-after_number-requires
number-after_number-requires c =
    first_fits _ _ (then_fits _ c.word-after_word.ensures (refusal_fits _ _ c.args.r (search rules) (search rules) (search rules) c.requires))

pub line_of_two-requires : goal.line_of_two-requires
line_of_two-requires c =
    then_fits _ c.number-after_number.ensures
    (then_fits _ c.word-after_word.ensures (refusal_fits _ _ c.args.r (search rules) (search rules) (search rules) c.requires))

pub returns : goal.returns
returns c =
    put_then c.word-after_word.ensures (put_then c.number-after_number.ensures c.line_of_two.ensures)
