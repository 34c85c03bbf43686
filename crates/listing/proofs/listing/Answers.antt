-- `listing::listing` tests the length as `listing_of` does, and prints what is checked.
use Rattle.listing.proofs.ListingTexts.{printed_as, longer, not_longer}
use Rattle.listing.proofs.listing.Goals as goal

pub returns-then-input-gt-LONGEST_INPUT : goal.returns-then-input-gt-LONGEST_INPUT
returns-then-input-gt-LONGEST_INPUT c = printed_as (longer _ _ _ c.if-input-gt-LONGEST_INPUT.true c.refuse.ensures) c.refused.ensures

pub returns-else-input-gt-LONGEST_INPUT : goal.returns-else-input-gt-LONGEST_INPUT
returns-else-input-gt-LONGEST_INPUT c = printed_as (not_longer _ _ c.if-input-gt-LONGEST_INPUT.false) c.checked.ensures
