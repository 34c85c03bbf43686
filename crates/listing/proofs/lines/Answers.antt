-- `listing::lines` puts one line after another: after i of them the others are left.
use Rattle.listing.proofs.Numbered.{next_fits, counted_more, counted_end}
use Rattle.listing.proofs.lines.Goals as goal

pub line_of_two-to-requires : goal.line_of_two-to-requires
line_of_two-to-requires c = next_fits c.loop-i.invariant c.requires.fits c.loop-i-test.true

pub loop-i-preserved : goal.loop-i-preserved
loop-i-preserved c = counted_more c.loop-i.invariant c.loop-i-test.true c.line_of_two-to.ensures

pub returns : goal.returns
returns c = counted_end c.loop-i.invariant c.loop-i-test.false
