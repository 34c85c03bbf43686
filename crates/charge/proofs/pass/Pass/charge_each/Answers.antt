-- The facts stand one after the other: each turn adds one, and the next begins where it ends.
use Rattle.paper.specs.Files.{fact_place}
use Rattle.charge.proofs.Adding.{head_at, adding_limits, adding_open, adding_more}
use Rattle.charge.proofs.pass.Pass.charge_each.Goals as goal

pub loop-i-init : goal.loop-i-init
unfolding fact_place
loop-i-init c =
    record { place = c.facts_at-p.ensures; covered = c.requires.covered; added = c.requires.facts_added; part = c.requires.part }

pub charge_fact-c-requires-clause-sound_head : goal.charge_fact-c-requires-clause-sound_head
charge_fact-c-requires-clause-sound_head c = head_at _ _ _ _ _ _ _ _ _ _ c.loop-i.invariant _ c.args.self.now.of.ready c.loop-i-test.true

pub charge_fact-c-requires-clause-limits : goal.charge_fact-c-requires-clause-limits
charge_fact-c-requires-clause-limits c = adding_limits _ _ _ _ _ _ _ _ _ _ c.loop-i.invariant

pub add-requires-clause-fact : goal.add-requires-clause-fact
add-requires-clause-fact c =
    adding_open _ _ _ _ _ _ _ _ _ _ c.loop-i.invariant _ c.args.self.now.of.ready c.loop-i-test.true _ c.charge_fact-c.ensures.value

pub loop-i-preserved : goal.loop-i-preserved
loop-i-preserved c =
    adding_more _ _ _ _ _ _ _ _ _ _ c.loop-i.invariant _ c.args.self.now.of.ready c.loop-i-test.true _ c.charge_fact-c.ensures.value _ _ _ c.charge_fact-c.ensures.lowered c.add.ensures.whole_after c.add.ensures.parts_after
