-- `cyclelines::told`: there is room for the time's line.
use native.Mathlib.Omega.{arith}
use borrow.Author.Rules.{rules}
use Rattle.listing.proofs.ListingTexts.{printed_whole}
use Rattle.cyclelines.proofs.CycleTexts.{time_fits}
use Rattle.cyclelines.proofs.told.Goals as goal

pub line-requires : goal.line-requires
line-requires c = time_fits _ c.args.cycles (search rules) (omega (arith, c.told-out))

pub returns : goal.returns
returns c =
    printed_whole (time_fits _ c.args.cycles (search rules) (omega (arith, c.told-out))) c.line.ensures
