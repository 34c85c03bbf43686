-- `cyclelines::cycles` tests the input as `cycles_of` does.
use mathlib.Core.Path.{sym, ◌∙◌}
use Rattle.listing.proofs.ListingTexts.{printed_as}
use Rattle.cyclelines.proofs.CycleTexts.{whole_text, not_whole_text}
use Rattle.cyclelines.proofs.cycles.Goals as goal

pub part-requires : goal.part-requires
part-requires c =
    sym c.is_whole.ensures ∙ c.if-is_whole.true

pub returns-then-is_whole : goal.returns-then-is_whole
returns-then-is_whole c =
    printed_as (whole_text _ (sym c.is_whole.ensures ∙ c.if-is_whole.true)) c.part.ensures

pub returns-else-is_whole : goal.returns-else-is_whole
returns-else-is_whole c =
    printed_as (not_whole_text _ _ (sym c.is_whole.ensures ∙ c.if-is_whole.false) c.refuse.ensures) c.refused.ensures
