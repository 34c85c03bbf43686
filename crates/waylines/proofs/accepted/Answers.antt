-- `waylines::accepted`: there is room for eight lines, counted from one way on.
use Prim.Native.Nat.{ℕ, ◌^◌, ◌<◌}
use native.Mathlib.Omega.{arith}
use mathlib.Core.Path.{◌≡◌, refl}
use mathlib.Core.List.{List}
use lib.ListN.{length, get_or}
use Rattle.paper.specs.Listings.{bytes}
use Rattle.puts.specs.Put.{Fits}
use Rattle.puts.proofs.Putting.{fits_as}
use Rattle.listing.specs.Listed.{numbered}
use Rattle.listing.proofs.ListingTexts.{printed_whole}
use Rattle.waylines.specs.WayLines.{count_lines}
use Rattle.waylines.proofs.WayTexts.{counts_length}
use Rattle.waylines.proofs.accepted.Goals as goal

fits_in : (out counts : List ℕ) → length out ≡ 224 → ((i : ℕ) → get_or counts i 0 < 2 ^ 64) → Fits out 0 (count_lines counts)
fits_in out counts e small = record { room = omega (arith, e, counts_length counts small) }

eight : (counts : List ℕ) → length counts ≡ 8 → count_lines counts ≡ numbered (bytes "ways ") 1 counts
eight counts e = rw e refl

pub lines-requires-clause-fits : goal.lines-requires-clause-fits
lines-requires-clause-fits c =
    fits_as (eight c.args.counts.now c.requires) (fits_in c.args.out.now c.args.counts.now c.told-out (λ i. omega (arith, c.type_inv.counts i)))

pub returns : goal.returns
returns c =
    printed_whole (fits_in c.args.out.now c.args.counts.now c.told-out (λ i. omega (arith, c.type_inv.counts i)))
    (rw (← eight c.args.counts.now c.requires) at c.lines.ensures)
