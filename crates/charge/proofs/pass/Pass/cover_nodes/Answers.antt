-- The chain has every node of b's bucket from the last to the first, so what it passes over does not fetch b.
use Prim.Native.Nat.{ℕ, ◌-◌, ◌%◌, ◌≤◌, ◌<◌}
use native.Mathlib.Omega.{arith}
use mathlib.Core.Path.{refl, ◌∙◌}
use Rattle.paper.specs.Files.{case_of}
use Rattle.charge.specs.Chained.{bucket}
use Rattle.charge.specs.Sizes as Sizes
use Rattle.charge.proofs.Buckets.{chain_low}
use Rattle.charge.proofs.Following.{following_start, following_more, following_end}
use Rattle.charge.proofs.pass.Pass.cover_nodes.Goals as goal

-- the node before c
node : (first c n : ℕ) → first < c → c ≤ n → c - 1 < n
node first c n l h = omega arith

pub loop-c-init : goal.loop-c-init
unfolding case_of
loop-c-init c =
    following_start _ _ _ _ _ c.requires _ (c.args.self.now.chained.lasts (c.args.h.block % Sizes.buckets) (omega arith))

pub fetches-hit-requires : goal.fetches-hit-requires
unfolding case_of
fetches-hit-requires c = node _ _ _ c.loop-c-test.true c.loop-c.invariant.within

pub bounds-self-at : goal.bounds-self-at
unfolding case_of
bounds-self-at c = omega (arith, node _ _ _ c.loop-c-test.true c.loop-c.invariant.within, c.args.self.now.of.ready.counted.room)

pub bounds-cover-at : goal.bounds-cover-at
unfolding case_of
bounds-cover-at c = omega (arith, node _ _ _ c.loop-c-test.true c.loop-c.invariant.within, c.args.self.now.of.ready.laid.nodes_high)

pub bounds-cover-at-in-loop-c : goal.bounds-cover-at-in-loop-c
unfolding case_of
bounds-cover-at-in-loop-c c = omega (arith, node _ _ _ c.loop-c-test.true c.loop-c.invariant.within, c.args.self.now.of.ready.laid.nodes_high)

pub bounds-self-at-in-loop-c : goal.bounds-self-at-in-loop-c
unfolding case_of
bounds-self-at-in-loop-c c = omega (arith, node _ _ _ c.loop-c-test.true c.loop-c.invariant.within, c.args.self.now.of.ready.laid.nodes_high)

pub overflow_add-n : goal.overflow_add-n
unfolding case_of
overflow_add-n c = omega (arith, c.loop-c.invariant.small, c.args.self.now.of.ready.laid.nodes_high, c.count_if-n.ensures.upper_bound)

pub loop-c-smaller : goal.loop-c-smaller
unfolding case_of
loop-c-smaller c =
    let e = case_of c.args.self.now.of.file.now c.args.self.now.of.trailer in
    let v = c.loop-c.c - 1 in
    omega (arith, c.args.self.now.chained.befores v (node _ _ _ c.loop-c-test.true c.loop-c.invariant.within), chain_low e (bucket e v) v, c.loop-c-test.true)

pub loop-c-preserved : goal.loop-c-preserved
unfolding case_of
loop-c-preserved c =
    let w = c.loop-c.invariant in
    let h : c.loop-c.c - 1 < c.args.self.now.of.trailer.nodes = node _ _ _ c.loop-c-test.true w.within in
    following_more _ _ _ _ _ c.requires _ _ _ _ _ _ _ _ w c.loop-c-test.true refl (c.args.self.now.chained.befores _ h) (omega (arith, h, w.room, c.requires.room, c.args.self.now.of.ready.laid.nodes_high))
    c.fetches-hit.ensures (c.count_if-n.ensures.value ∙ rw (c.args.self.now.of.ready.counted.at _ h) refl) c.count_if-n.ensures.upper_bound c.lower_if.ensures

pub returns : goal.returns
unfolding case_of
returns c =
    let r = following_end _ _ _ _ _ c.requires _ _ _ c.args.self.now.of.ready.laid.nodes_high c.loop-c.invariant c.loop-c-test.false in
    record { value = r.0; upper_bound = r.1.0; lowered = r.1.1 }
