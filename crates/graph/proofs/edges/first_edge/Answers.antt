-- The loop stops at the least edge that its mark does not allow (`Passed`, `edge_at`).
use Prim.Native.Nat.{ℕ, ◌<◌}
use native.Mathlib.Omega.{arith}
use mathlib.Core.Path.{◌≡◌, refl, ◌∙◌}
use mathlib.Core.Bool.{Bool}
use mathlib.Core.List.{List}
use lib.ListN.{get_or}
use Rattle.paper.specs.Cases.{Case}
use Rattle.paper.specs.Files.{case_of}
use Rattle.paper.specs.Known.{Shaped}
use Rattle.paper.proofs.Least.{passed_more}
use Rattle.graph.specs.Filled.{Holds}
use Rattle.graph.specs.declared.marks.Rule.{Rule}
use Rattle.graph.specs.Marks.{marks, marked_to, breaks, edge_rule}
use Rattle.graph.proofs.Entering.{edge_at}
use Rattle.layout.proofs.FirstLaws.{first_found, first_end}
use Rattle.graph.proofs.edges.first_edge.Goals as goal

-- what the test says of edge i, from u to v
tested : (e : Case) → Shaped e → (rule : Rule) (table : List ℕ) → Holds (λ v. marked_to (marks e rule) 0 v e.loops) e.nodes table → (i u v : ℕ) → i < e.edges → u ≡ e.from i → v ≡ e.to i →
    (t : Bool) → t ≡ breaks rule u v (get_or table v 0) → t ≡ edge_rule e rule i
tested e w rule table h i u v l from to t b =
    b ∙ edge_at e w i rule table u v _ h from to (omega (arith, w.ends i l)) refl

pub bounds-table-v : goal.bounds-table-v
unfolding case_of
bounds-table-v c =
    omega (arith, c.to_at-v.ensures, c.requires.shaped.ends c.loop-i.i c.loop-i-test.true, c.requires.holds.room)

pub returns-then-breaks : goal.returns-then-breaks
unfolding case_of
returns-then-breaks c =
    first_found _ _ _ c.loop-i.invariant _ c.loop-i-test.true
    (tested _ c.requires.shaped _ _ c.requires.holds _ _ _ c.loop-i-test.true c.from_at-u.ensures c.to_at-v.ensures _ c.breaks.ensures) c.if-breaks.true

pub loop-i-preserved : goal.loop-i-preserved
unfolding case_of
loop-i-preserved c =
    passed_more _ _ _ _ c.loop-i.invariant c.loop-i-test.true
    (tested _ c.requires.shaped _ _ c.requires.holds _ _ _ c.loop-i-test.true c.from_at-u.ensures c.to_at-v.ensures _ c.breaks.ensures) c.if-breaks.false

pub returns : goal.returns
returns c = first_end _ _ _ c.loop-i.invariant c.loop-i-test.false
