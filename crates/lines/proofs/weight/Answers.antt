-- `lines::weight`: each line has its weight by its own comparison, and the eight add up to the rule.
use Rattle.lines.specs.Lines.{weighed, weight_of}
use Rattle.lines.proofs.Eight.{sum_of}
use Rattle.lines.proofs.weight.Goals as goal

pub returns : goal.returns
unfolding weighed weight_of
returns c =
    let low = c.before.before.before.before in
    sum_of _
    c.weight_at-5.ensures.value c.weight_at-6.ensures.value c.weight_at-7.ensures.value c.weight_at-8.ensures.value
    low.weight_at.ensures.value low.weight_at-2.ensures.value low.weight_at-3.ensures.value low.weight_at-4.ensures.value
