-- A node is added with the least limit that covers it, and with 0 where it fetches nothing.
use Rattle.charge.proofs.Walking.{walking_open, walking_more}
use Rattle.charge.proofs.asked.Asked.charge_nodes.Goals as goal

pub add-requires-clause-fact : goal.add-requires-clause-fact
add-requires-clause-fact c =
    walking_open _ _ _ _ _ c.loop-v.invariant _ _ c.args.self.now.ready c.requires.covered c.loop-v-test.true _ _ c.node_at-b.ensures c.count_if-x.ensures.value

pub loop-v-preserved : goal.loop-v-preserved
loop-v-preserved c =
    walking_more _ _ _ _ _ c.loop-v.invariant _ _ c.args.self.now.ready c.requires.covered c.loop-v-test.true _ _ c.node_at-b.ensures c.count_if-x.ensures.value _ _ c.add.ensures.whole_after
    c.add.ensures.parts_after
