-- `print::number` puts what `itoa::Buffer::format` makes, which is the number in decimal.
use mathlib.Core.Path.{sym, ◌∙◌, ◌≡◌}
use Rattle.paper.specs.Listings.{decimal}
use Rattle.print.proofs.Decimals.{decimal_std}
use Rattle.puts.proofs.Putting.{fits_as}
use Rattle.print.proofs.number.Goals as goal

made : (c : goal.After-as_bytes) → decimal c.args.n ≡ c.as_bytes.result.now
made c = decimal_std _ c.ranges.n.fits ∙ sym c.format.ensures.text ∙ sym c.as_bytes.ensures.value

pub word-requires : goal.word-requires
word-requires c = fits_as (made c) c.requires

pub returns : goal.returns
returns c =
    rw (decimal_std _ c.ranges.n.fits, ← c.format.ensures.text, ← c.as_bytes.ensures.value) c.word.ensures
