-- `cyclelines::answered` prints the time that the operation answers, or its refusal.
use Rattle.listing.proofs.ListingTexts.{printed_as}
use Rattle.cyclelines.proofs.CycleTexts.{refused_as, told_as}
use Rattle.cyclelines.proofs.answered.Goals as goal

pub returns-in-Err : goal.returns-in-Err
returns-in-Err c =
    printed_as (refused_as _ _ _ _ c.time.ensures _ c.in-Err.is) c.refused.ensures

pub returns-in-Ok : goal.returns-in-Ok
returns-in-Ok c =
    printed_as (told_as _ _ _ _ c.time.ensures _ c.in-Ok.is) c.told.ensures
