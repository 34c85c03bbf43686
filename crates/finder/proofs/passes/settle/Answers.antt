-- `finder::passes::settle`: a pass that changes the table leaves less to do; one that does not leaves it settled.
use Rattle.paper.specs.Files.{case_of}
use Rattle.finder.proofs.Passing.{pass_searched, pass_less, pass_settled}
use Rattle.finder.proofs.passes.settle.Goals as goal

pub pass-requires : goal.pass-requires
pass-requires c =
    record { laid = c.requires.laid; scoped = c.requires.scoped; asked = c.requires.asked; searched = c.loop-trailer.invariant }

pub loop-trailer-smaller : goal.loop-trailer-smaller
unfolding case_of
loop-trailer-smaller c =
    pass_less _ _ c.requires.asked _ _ _ c.loop-trailer.invariant c.pass.ensures.value c.pass.ensures.table_after c.loop-trailer-test.true

pub loop-trailer-preserved : goal.loop-trailer-preserved
unfolding case_of
loop-trailer-preserved c =
    pass_searched _ _ c.requires.asked _ _ _ c.loop-trailer.invariant c.pass.ensures.value c.pass.ensures.table_after

pub returns : goal.returns
unfolding case_of
returns c =
    pass_settled _ _ c.requires.asked _ _ _ c.loop-trailer.invariant c.pass.ensures.value c.pass.ensures.table_after c.loop-trailer-test.false

pub loop-trailer-init : goal.loop-trailer-init
loop-trailer-init c = c.requires.searched
