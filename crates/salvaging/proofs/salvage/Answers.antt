-- `salvaging::salvage` tests the length as `verdict_of` does.
use native.Mathlib.Omega.{arith}
use mathlib.Core.Path.{refl}
use Rattle.salvaging.proofs.Saving.{longer_saves, not_longer}
use Rattle.salvaging.proofs.salvage.Goals as goal

pub returns-then-input-gt-LONGEST_INPUT : goal.returns-then-input-gt-LONGEST_INPUT
returns-then-input-gt-LONGEST_INPUT c = longer_saves _ _ _ (omega (arith, c.if-input-gt-LONGEST_INPUT.true)) c.refuse.ensures refl c.refused.ensures.rest_value c.refused.ensures.printed

pub returns-else-input-gt-LONGEST_INPUT : goal.returns-else-input-gt-LONGEST_INPUT
returns-else-input-gt-LONGEST_INPUT c = not_longer _ (omega (arith, c.if-input-gt-LONGEST_INPUT.false)) c.salvaged.ensures
