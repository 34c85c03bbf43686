-- `listing::checked`: the check's verdict is the paper's, and the layout that is read again is the one it was made by.
use mathlib.Core.Path.{sym, ◌∙◌}
use Rattle.std.specs.Prelude.{replicate}
use borrow.Author.Rules.{rules}
use Rattle.layout.proofs.Laws.{read_laid}
use Rattle.bolgverk.proofs.Determined.{check_answer}
use Rattle.listing.proofs.ListingTexts.{printed_as, layout_text, accepted_text}
use Rattle.listing.proofs.checked.Goals as goal

pub accepted-requires : goal.accepted-requires
accepted-requires c =
    let d = read_laid _ _ (sym c.layout_of.ensures ∙ c.in-Ok-layout_of.is) in
    record { list_length_in_bounds = search rules; sets_bound = d.sets_high; facts_bound = d.facts_high }

pub returns-in-Err-layout_of : goal.returns-in-Err-layout_of
returns-in-Err-layout_of c =
    printed_as (layout_text _ _ _ (sym c.layout_of.ensures ∙ c.in-Err-layout_of.is)) c.refused-in-Err-layout_of.ensures

pub returns-in-Ok-layout_of : goal.returns-in-Ok-layout_of
returns-in-Ok-layout_of c =
    let p = c.check.ensures in
    printed_as
    (accepted_text _ _ (replicate 321 0) c.check.new.numbers _ _ (sym c.layout_of.ensures ∙ c.in-Ok-layout_of.is) (check_answer _ _ _ _ _ p) p.numbers c.in-Ok.is)
    c.accepted.ensures
