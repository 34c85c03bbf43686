-- `cyclelines::timed`: penalty, interruptions, costs and file are those of the input.
use Rattle.listing.proofs.ListingTexts.{printed_as}
use Rattle.cyclelines.proofs.CycleTexts.{read_text}
use Rattle.cyclelines.proofs.timed.Goals as goal

pub returns : goal.returns
returns c =
    printed_as (read_text c.args.input.now c.u32_at-penalty.ensures c.u16_at-interruptions.ensures c.requires.costs_len c.read_list_at-from.ensures.numbers_after c.read_list_at-from.ensures.value) c.answered.ensures
