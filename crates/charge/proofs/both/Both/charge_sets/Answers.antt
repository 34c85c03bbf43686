-- Each set's bound is written and added; the total is the sum.
use native.Mathlib.Omega.{arith}
use Rattle.paper.specs.Files.{case_of}
use Rattle.paper.proofs.Sums.{added_start, added_more}
use Rattle.charge.proofs.PartLaws.{part_set, part_total}
use Rattle.charge.proofs.both.Both.charge_sets.Goals as goal

pub loop-q-init : goal.loop-q-init
loop-q-init c = (c.requires, added_start _ _ _)

pub loop-q-preserved : goal.loop-q-preserved
loop-q-preserved c =
    let w = c.loop-q.invariant in
    let x = c.set_bound-x.ensures in
    (part_set _ _ _ _ _ _ _ (omega (arith, c.loop-q-test.true, c.args.self.now.summed.laid.sets_high)) x.value w.0, added_more _ _ _ _ _ _ w.1 c.loop-q-test.true x.value x.upper_bound)

pub returns : goal.returns
unfolding case_of
returns c = part_total _ _ _ _ _ _ _ _ c.loop-q.invariant.0 c.loop-q.invariant.1 c.loop-q-test.false
