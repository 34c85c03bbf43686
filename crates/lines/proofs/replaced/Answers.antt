-- `lines::replaced`: each line is replaced by its own comparison, and the eight make the rule.
use Rattle.lines.specs.Lines.{replaced_by}
use Rattle.lines.proofs.Eight.{made_of}
use Rattle.lines.proofs.replaced.Goals as goal

pub returns : goal.returns
unfolding replaced_by
returns c =
    let half = c.before.before.before.before in
    made_of _
    half.replaced_at.ensures half.replaced_at-2.ensures half.replaced_at-3.ensures half.replaced_at-4.ensures
    c.replaced_at-5.ensures c.replaced_at-6.ensures c.replaced_at-7.ensures c.replaced_at-8.ensures
