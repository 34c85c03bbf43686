-- `paper::methods::kept_from`: the lines from n to i-1 are marked.
use native.Mathlib.Omega.{arith}
use mathlib.Core.Path.{◌∙◌}
use Rattle.paper.specs.Lists.{table}
use Rattle.paper.proofs.LineLaws.{made_start, made_more, made_end}
use Rattle.paper.proofs.methods.kept_from.Goals as goal

pub loop-i-init : goal.loop-i-init
unfolding table
loop-i-init c = (omega arith, made_start _)

pub loop-i-preserved : goal.loop-i-preserved
loop-i-preserved c =
    let v = c.loop-i in
    (omega arith, made_more _ v.i v.kept v.invariant.0 (omega arith) v.invariant.1)

pub returns : goal.returns
returns c = c.loop-i.invariant.1 ∙ made_end _ _ (omega arith)
