-- `finder::passes::pass`: one edge after another (`Passing`).
use Rattle.paper.specs.Files.{case_of}
use Rattle.finder.proofs.Passing.{passing_start, passing_more, passing_searched, passing_end}
use Rattle.finder.proofs.passes.pass.Goals as goal

pub take_edge-changed-requires : goal.take_edge-changed-requires
take_edge-changed-requires c =
    record { laid = c.requires.laid; scoped = c.requires.scoped; searched = passing_searched _ _ _ c.requires.asked c.requires.searched _ _ _ c.loop-i.invariant; i_lt_edges = c.loop-i-test.true }

pub loop-i-preserved : goal.loop-i-preserved
unfolding case_of
loop-i-preserved c =
    passing_more _ _ _ _ _ _ _ _ c.loop-i.invariant c.loop-i-test.true c.take_edge-changed.ensures.value c.take_edge-changed.ensures.table_after

pub returns : goal.returns
unfolding case_of
returns c =
    let r = passing_end _ _ _ _ _ _ c.loop-i.invariant c.loop-i-test.false in
    record { value = r.0; table_after = r.1 }

pub loop-i-init : goal.loop-i-init
loop-i-init c = passing_start _ _ _
