-- `salvaging::named`: each part has room because all have, and put one after another they are the text.
use native.Mathlib.Omega.{arith}
use borrow.Author.Rules.{rules}
use Rattle.print.proofs.Lengths.{short}
use Rattle.puts.proofs.Putting.{put_length, put_then}
use Rattle.salvaging.specs.Said.{named}
use Rattle.salvaging.proofs.SaidTexts.{number_fits}
use Rattle.salvaging.proofs.named.Goals as goal

pub number-after_place-requires : goal.number-after_place-requires
number-after_place-requires c =
    number_fits c.args.place (search rules) (omega (arith, c.word-after_word.ensures.place, put_length c.word-after_word.ensures, c.requires))

pub word-after_colon-requires : goal.word-after_colon-requires
word-after_colon-requires c =
    let d = short c.args.place (search rules) in
    record { room = omega (arith, c.number-after_place.ensures.place, put_length c.number-after_place.ensures, c.word-after_word.ensures.place, put_length c.word-after_word.ensures, c.requires) }

pub wrong-requires : goal.wrong-requires
wrong-requires c =
    let d = short c.args.place (search rules) in
    omega (arith, c.word-after_colon.ensures.place, put_length c.word-after_colon.ensures, c.number-after_place.ensures.place, put_length c.number-after_place.ensures, c.word-after_word.ensures.place, put_length c.word-after_word.ensures, c.requires)

pub returns : goal.returns
unfolding named
returns c =
    let d = short c.args.place (search rules) in
    record { put = put_then c.word-after_word.ensures (put_then c.number-after_place.ensures (put_then c.word-after_colon.ensures c.wrong.ensures.put)); upper_bound = omega (arith, c.wrong.ensures.upper_bound, c.word-after_colon.ensures.place, c.number-after_place.ensures.place, c.word-after_word.ensures.place) }
