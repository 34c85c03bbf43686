-- `waylines::answered` prints the counts that the operation answers, or its refusal.
use Rattle.listing.proofs.ListingTexts.{printed_as}
use Rattle.waylines.proofs.WayTexts.{refused_as, accepted_as}
use Rattle.waylines.proofs.answered.Goals as goal

pub returns-in-Err : goal.returns-in-Err
returns-in-Err c =
    printed_as (refused_as _ _ c.all_ways.ensures _ c.in-Err.is) c.refused.ensures

pub returns-in-Ok : goal.returns-in-Ok
returns-in-Ok c =
    printed_as (accepted_as _ _ c.all_ways.ensures _ c.in-Ok.is) c.accepted.ensures
