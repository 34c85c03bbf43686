-- A node becomes the last of its bucket, and keeps the one that was.
use Prim.Native.Nat.{◌%◌, ◌<◌}
use native.Mathlib.Omega.{arith}
use mathlib.Core.Path.{refl, ap}
use Rattle.paper.specs.Files.{case_of}
use Rattle.charge.specs.Sizes as Sizes
use Rattle.charge.proofs.Buckets.{chained_more}
use Rattle.charge.proofs.asked.Asked.chain_nodes.Goals as goal

pub loop-v-preserved : goal.loop-v-preserved
unfolding case_of
loop-v-preserved c =
    let low : c.loop-v.v < Sizes.nodes = omega (arith, c.loop-v-test.true, c.args.self.now.ready.laid.nodes_high) in
    chained_more _ _ _ _ _ low c.loop-v.invariant (ap (λ x. x % Sizes.buckets) c.node_at.ensures) (omega arith) refl
