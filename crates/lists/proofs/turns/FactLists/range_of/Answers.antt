-- A loop that passed rule 7 has nodes for ends.
use Prim.Native.Nat.{ℕ, ◌≤◌, ◌<◌}
use native.Mathlib.Omega.{arith}
use mathlib.Core.Path.{◌≡◌, ap}
use borrow.Author.Tests.{ne_eqb}
use Rattle.paper.specs.declared.Loop.{Loop}
use Rattle.paper.specs.Cases.{range_of}
use Rattle.graph.specs.declared.shape.WideLoop.{WideLoop}
use Rattle.graph.specs.Wide.{as_loop}
use Rattle.lists.proofs.turns.FactLists.range_of.Goals as goal

pub returns-then-w-eq65535 : goal.returns-then-w-eq65535
returns-then-w-eq65535 c = rw c.if-w-eq65535.true (c.whole_graph.ensures _)

-- the ends of a loop that passed rule 7 are nodes
narrow : (l : WideLoop) (m : Loop) (n : ℕ) → as_loop l ≡ m → (m.first ≤ m.last) × (m.last < n) → n ≤ 1024 → (l.first < 65536) × (l.last < 65536)
narrow l m n e w h =
    let first : l.first ≡ m.first = ap (λ (x : Loop). x.first) e in
    let last : l.last ≡ m.last = ap (λ (x : Loop). x.last) e in
    (omega arith, omega arith)

pub overflow_cast-result : goal.overflow_cast-result
overflow_cast-result c =
    let s = c.args.self.now in
    omega (arith, narrow _ _ _ c.loop_at-l.ensures (s.facts.fits _ (c.requires c.if-w-eq65535.false)) s.facts.nodes_high)

pub overflow_cast-result-2 : goal.overflow_cast-result-2
overflow_cast-result-2 c =
    let s = c.args.self.now in
    omega (arith, narrow _ _ _ c.loop_at-l.ensures (s.facts.fits _ (c.requires c.if-w-eq65535.false)) s.facts.nodes_high)

pub returns : goal.returns
unfolding range_of
returns c = rw (ne_eqb _ _ c.if-w-eq65535.false) c.loop_at-l.ensures
