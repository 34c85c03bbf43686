-- `cyclelines::is_whole`: the three tests of `whole`, one after another.
use Rattle.cyclelines.proofs.CycleTexts.{too_short, too_long, costs_test}
use Rattle.cyclelines.proofs.is_whole.Goals as goal

pub returns-then-input-lt8 : goal.returns-then-input-lt8
returns-then-input-lt8 c = too_short _ c.if-input-lt8.true

pub returns-then-input-gt-LONGEST_INPUT : goal.returns-then-input-gt-LONGEST_INPUT
returns-then-input-gt-LONGEST_INPUT c = too_long _ c.if-input-gt-LONGEST_INPUT.true

pub returns : goal.returns
returns c = costs_test _ c.if-input-lt8.false c.if-input-gt-LONGEST_INPUT.false c.u16_at.ensures
