-- `listing::refused`: there is room for a refusal's line.
use borrow.Author.Rules.{rules}
use Rattle.print.proofs.Lengths.{refusal_fits}
use Rattle.listing.proofs.ListingTexts.{printed_whole}
use Rattle.listing.proofs.refused.Goals as goal

pub returns : goal.returns
returns c =
    printed_whole (refusal_fits _ _ c.args.why (search rules) (search rules) (search rules) c.requires)
    c.refusal.ensures
