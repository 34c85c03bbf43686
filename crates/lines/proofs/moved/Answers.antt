-- `lines::moved`: each line moves by its own comparison, and the eight make the rule.
use Rattle.lines.specs.Lines.{moved_by}
use Rattle.lines.proofs.Eight.{made_of}
use Rattle.lines.proofs.moved.Goals as goal

pub returns : goal.returns
unfolding moved_by
returns c =
    let half = c.before.before.before.before in
    made_of _
    half.moved_at.ensures half.moved_at-2.ensures half.moved_at-3.ensures half.moved_at-4.ensures
    c.moved_at-5.ensures c.moved_at-6.ensures c.moved_at-7.ensures c.moved_at-8.ensures
