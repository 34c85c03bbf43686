-- `salvaging::salvaged`: what the salvage answers is written and said, and there is room for every line.
use native.Mathlib.Omega.{arith}
use mathlib.Core.Path.{refl}
use borrow.Author.Rules.{rules}
use Rattle.salvaging.proofs.Saving.{told_refused, told_few, told_salvaged}
use Rattle.salvaging.proofs.salvaged.Goals as goal

pub lines-requires : goal.lines-requires
lines-requires c =
    let few = told_few _ c.salvage.ensures c.told-out refl _ c.in-Ok.is in
    record { n_in_bounds = search (rules, few); n_in_bounds_2 = omega (arith, c.told-text) }

pub returns-in-Err : goal.returns-in-Err
returns-in-Err c =
    told_refused _ c.salvage.ensures c.told-out refl _ _ c.in-Err.is c.refused.ensures.rest_value c.refused.ensures.printed

pub returns-in-Ok : goal.returns-in-Ok
returns-in-Ok c =
    let few = told_few _ c.salvage.ensures c.told-out refl _ c.in-Ok.is in
    told_salvaged _ c.salvage.ensures c.told-out refl _ _ c.in-Ok.is refl c.lines.ensures.put
    (omega (arith, c.lines.ensures.upper_bound, c.told-text))
