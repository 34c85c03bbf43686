-- `bolgverk::time`: the layout's refusal, or the answer for a file whose trailer has been read.
use Rattle.std.specs.Prelude.{Err}
use borrow.Author.Rules.{rules}
use mathlib.Core.Path.{◌≡◌, sym, ◌∙◌}
use Rattle.layout.proofs.Laws.{read_laid}
use Rattle.bolgverk.proofs.Timing.{unread_time, read_time}
use Rattle.bolgverk.proofs.time.Goals as goal

pub time_on-requires : goal.time_on-requires
time_on-requires c =
    read_laid _ _ (sym c.layout_of.ensures ∙ c.in_ok-trailer.was)

pub returns : goal.returns
returns c =
    read_time _ _ _ _ _ (sym c.layout_of.ensures ∙ c.in_ok-trailer.was) _ c.time_on.ensures

pub returns-in_err-trailer : goal.returns-in_err-trailer
returns-in_err-trailer c =
    let e : c.from_residual.result ≡ Err c.in_err-trailer.field-0.0 = search rules in
    rw e (unread_time _ _ _ _ _ (sym c.layout_of.ensures ∙ c.in_err-trailer.was))
