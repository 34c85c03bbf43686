-- `waylines::counted`: the number of sets and the trace are those of the input.
use native.Mathlib.Omega.{arith}
use Rattle.listing.proofs.ListingTexts.{printed_as}
use Rattle.waylines.proofs.WayTexts.{many_sets, read_text}
use Rattle.waylines.proofs.counted.Goals as goal

pub returns-then-sets-gt255 : goal.returns-then-sets-gt255
returns-then-sets-gt255 c =
    printed_as (many_sets _ _ _ (omega (arith, c.if-sets-gt255.true, c.u16_at-sets.ensures)) c.refuse.ensures) c.refused.ensures

pub returns-else-sets-gt255 : goal.returns-else-sets-gt255
returns-else-sets-gt255 c =
    printed_as (read_text c.args.input.now _ (omega (arith, c.if-sets-gt255.false, c.u16_at-sets.ensures)) c.read_list_at.ensures.numbers_after c.requires) c.answered.ensures
