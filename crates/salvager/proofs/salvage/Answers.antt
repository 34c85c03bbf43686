-- `salvager::salvage`: the layout's refusal, or what comes of a file whose trailer has been read.
use Rattle.std.specs.Prelude.{Err}
use borrow.Author.Rules.{rules}
use mathlib.Core.Path.{◌≡◌, sym, ◌∙◌}
use Rattle.layout.proofs.Laws.{read_trailer, read_laid}
use Rattle.salvager.proofs.SalvageEnds.{unread, read_on}
use Rattle.salvager.proofs.salvage.Goals as goal

pub salvage_in-requires : goal.salvage_in-requires
salvage_in-requires c =
    let e = sym c.layout_of.ensures ∙ c.in_ok-trailer.was in
    record { laid = read_laid _ _ e; trailer_value = read_trailer _ _ e }

pub returns : goal.returns
returns c =
    read_on _ _ _ _ (sym c.layout_of.ensures ∙ c.in_ok-trailer.was) _ _ _ c.salvage_in.ensures

pub returns-in_err-trailer : goal.returns-in_err-trailer
returns-in_err-trailer c =
    let e : c.from_residual.result ≡ Err c.in_err-trailer.field-0.0 = search rules in
    rw e (unread _ _ _ _ (sym c.layout_of.ensures ∙ c.in_err-trailer.was))
