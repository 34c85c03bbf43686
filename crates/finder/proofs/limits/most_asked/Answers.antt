-- `finder::limits::most_asked`: a node after another (`Asking`).
use native.Mathlib.Omega.{arith}
use Rattle.finder.proofs.Asked.{nodes_is}
use Rattle.finder.proofs.Passing.{asking_start, asking_more, asking_end}
use Rattle.finder.proofs.limits.most_asked.Goals as goal

pub most_with-most-requires : goal.most_with-most-requires
most_with-most-requires c =
    record { laid = c.requires.laid; scoped = c.requires.scoped; searched = c.requires.searched; j_bound = omega (arith, c.loop-j-test.true, nodes_is _ _ _ c.requires.scoped _ c.nodes-j-end.ensures.value) }

pub loop-j-preserved : goal.loop-j-preserved
loop-j-preserved c = asking_more _ _ _ _ _ _ _ c.loop-j.invariant c.loop-j-test.true c.most_with-most.ensures

pub returns : goal.returns
returns c = asking_end _ _ _ _ _ _ c.loop-j.invariant c.loop-j-test.false _ (nodes_is _ _ _ c.requires.scoped _ c.nodes-j-end.ensures.value)

pub loop-j-init : goal.loop-j-init
loop-j-init c = asking_start _ _ _ _
