-- `salvaging::line`: each part has room because all have, and put one after another they are the line.
use native.Mathlib.Omega.{arith}
use borrow.Author.Rules.{rules}
use Rattle.paper.specs.Listings.{bytes}
use Rattle.print.proofs.Lengths.{short, line_of_two_length}
use Rattle.puts.proofs.Putting.{put_length, put_then}
use Rattle.salvaging.specs.Said.{fact_line}
use Rattle.salvaging.proofs.SaidTexts.{number_fits}
use Rattle.salvaging.proofs.line.Goals as goal

pub number-after_number-requires : goal.number-after_number-requires
number-after_number-requires c =
    number_fits c.args.number (search rules)
    (omega (arith, c.word-after_word.ensures.place, put_length c.word-after_word.ensures, c.named-after_name.ensures.upper_bound, put_length c.named-after_name.ensures.put, c.requires))

pub line_of_two-requires : goal.line_of_two-requires
line_of_two-requires c =
    let a = short c.args.number (search rules) in
    let b = short c.args.place (search rules) in
    let d = short c.args.second (search rules) in
    let e = line_of_two_length (bytes " ") c.args.place c.args.second in
    record {
      room = omega (arith, c.number-after_number.ensures.place, put_length c.number-after_number.ensures, c.word-after_word.ensures.place, put_length c.word-after_word.ensures, c.named-after_name.ensures.upper_bound, put_length c.named-after_name.ensures.put, c.requires);
    }

pub returns : goal.returns
unfolding fact_line
returns c =
    let a = short c.args.number (search rules) in
    let b = short c.args.place (search rules) in
    let d = short c.args.second (search rules) in
    let e = line_of_two_length (bytes " ") c.args.place c.args.second in
    record { put = put_then c.named-after_name.ensures.put (put_then c.word-after_word.ensures (put_then c.number-after_number.ensures c.line_of_two.ensures)); upper_bound = omega (arith, c.line_of_two.ensures.place, c.number-after_number.ensures.place, c.word-after_word.ensures.place, c.named-after_name.ensures.upper_bound) }
