-- The edge before is carried along (`IsBefore`); the loop stops at the least edge at fault (`Passed`).
use Prim.Native.Nat.{ℕ}
use native.Mathlib.Omega.{arith}
use mathlib.Core.Path.{◌≡◌, ◌∙◌}
use mathlib.Core.Bool.{Bool}
use Rattle.paper.specs.Cases.{Case}
use Rattle.paper.specs.Graphs.{wrong_edge, bad_edge}
use Rattle.paper.proofs.Least.{passed_more}
use Rattle.paper.proofs.Before.{IsBefore, before_more, edge_after}
use Rattle.layout.proofs.FirstLaws.{first_found, first_end}
use Rattle.graph.proofs.edges.first_bad_edge.Goals as goal

-- what is tested is whether edge i breaks rule 6
tested : (e : Case) (i nodes a b u v : ℕ) (t : Bool) → t ≡ wrong_edge nodes i a b u v → nodes ≡ e.nodes → IsBefore e.from i a → IsBefore e.to i b → u ≡ e.from i → v ≡ e.to i → t ≡ bad_edge e i
tested e i nodes a b u v t h n p q f d = h ∙ rw n (edge_after e i a b u v p q f d)

pub returns-then-wrong_edge : goal.returns-then-wrong_edge
returns-then-wrong_edge g c =
    let l = c.loop-i.invariant in
    first_found _ _ _ l.0 _ (omega arith) (tested _ _ _ _ _ _ _ _ c.wrong_edge.ensures c.nodes-nodes.ensures l.1 l.2 c.edge-u.ensures.from c.edge-u.ensures.to) c.if-wrong_edge.true

pub loop-i-preserved : goal.loop-i-preserved
loop-i-preserved g c =
    let l = c.loop-i.invariant in (
      passed_more _ _ _ _ l.0 (omega arith) (tested _ _ _ _ _ _ _ _ c.wrong_edge.ensures c.nodes-nodes.ensures l.1 l.2 c.edge-u.ensures.from c.edge-u.ensures.to) c.if-wrong_edge.false,
      before_more _ _ _ c.edge-u.ensures.from,
      before_more _ _ _ c.edge-u.ensures.to,
    )

pub returns : goal.returns
returns g c = first_end _ _ _ c.loop-i.invariant.0 (omega arith)
