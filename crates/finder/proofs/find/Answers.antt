-- `finder::find`: the layout's refusal, or what is found in a file whose trailer has been read.
use Rattle.std.specs.Prelude.{Err}
use borrow.Author.Rules.{rules}
use mathlib.Core.Path.{◌≡◌, sym, ◌∙◌}
use Rattle.finder.proofs.Ends.{ends_unread, trailer_read_lem}
use Rattle.finder.proofs.find.Goals as goal

pub find_in-requires : goal.find_in-requires
find_in-requires c =
    trailer_read_lem _ _ (sym c.layout_of.ensures ∙ c.in_ok-trailer.was)

pub returns-in_err-trailer : goal.returns-in_err-trailer
returns-in_err-trailer c =
    let e : c.from_residual.result ≡ Err c.in_err-trailer.field-0.0 = search rules in
    rw e (ends_unread _ _ _ _ _ (sym c.layout_of.ensures ∙ c.in_err-trailer.was))
