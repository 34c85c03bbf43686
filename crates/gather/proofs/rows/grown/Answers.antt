-- `gather::rows::grown`: each slot by its own comparison, and the eight make the rule.
use native.Mathlib.Numerals.{add-one}
use Rattle.lines.proofs.Eight.{made_of}
use Rattle.search.specs.Steps.{placed, grown_at, grown}
use Rattle.gather.proofs.rows.grown.Goals as goal

pub returns : goal.returns
unfolding grown grown_at placed
returns c =
    made_of _
    (add-one _) c.lesser.ensures c.middle.ensures c.middle-2.ensures
    c.middle-3.ensures c.middle-4.ensures c.middle-5.ensures c.middle-6.ensures
