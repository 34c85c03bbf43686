-- `salvager::filling::copy_numbers` puts one number after another: after i of them the others are left.
use Rattle.salvager.proofs.Copied.{copied_start, numbers_more, numbers_end}
use Rattle.salvager.proofs.filling.copy_numbers.Goals as goal

pub loop-i-init : goal.loop-i-init
loop-i-init c = copied_start

pub loop-i-preserved : goal.loop-i-preserved
loop-i-preserved c = numbers_more c.loop-i.invariant c.loop-i-test.true

pub returns : goal.returns
returns c = numbers_end c.loop-i.invariant c.loop-i-test.false
