-- `lines::kept_after`: each line stays by its own comparison, and the eight make the rule.
use Rattle.lines.specs.Lines.{kept_after, weight_of}
use Rattle.lines.proofs.Eight.{made_of}
use Rattle.lines.proofs.kept_after.Goals as goal

pub returns : goal.returns
unfolding kept_after weight_of
returns c =
    let half = c.before.before.before.before in
    made_of _
    half.kept_at.ensures half.kept_at-2.ensures half.kept_at-3.ensures half.kept_at-4.ensures
    c.kept_at-5.ensures c.kept_at-6.ensures c.kept_at-7.ensures c.kept_at-8.ensures
