-- `evidence::steps::lost`: one return for each part of "u's block where u fetches one of b's set".
use Rattle.evidence.proofs.Sets.{forgets_none, forgets_other, forgets_same}
use Rattle.evidence.proofs.steps.lost.Goals as goal

pub returns-then-x-eq65535 : goal.returns-then-x-eq65535
returns-then-x-eq65535 c = forgets_none _ _ _ c.requires.stands _ _ c.if-x-eq65535.true

pub returns-then-elsewhere : goal.returns-then-elsewhere
returns-then-elsewhere c =
    forgets_other _ _ _ c.requires.stands _ _ c.if-x-eq65535.false _ c.elsewhere.ensures c.if-elsewhere.true

pub returns : goal.returns
returns c =
    forgets_same _ _ _ c.requires.stands _ _ c.if-x-eq65535.false _ c.elsewhere.ensures _
    c.if-elsewhere.false c.holds.ensures
