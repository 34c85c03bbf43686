-- The table holds the marks of the first i edges (`Marks`), and an edge's turn takes its start's mark over to its end (`marks_more`).
use Prim.Native.Nat.{ℕ, ◌<◌}
use native.Mathlib.Omega.{arith}
use mathlib.Core.Path.{◌≡◌, refl, ◌∙◌}
use lib.ListN.{length-set}
use Rattle.paper.specs.Lists.{bit}
use Rattle.paper.specs.Cases.{Case}
use Rattle.paper.specs.Files.{case_of}
use Rattle.paper.specs.Known.{Shaped}
use Rattle.graph.specs.Reaching.{reached_to}
use Rattle.graph.proofs.Filling.{holds_end}
use Rattle.graph.proofs.DeadMarks.{marks_start, marks_more}
use Rattle.graph.proofs.dead.mark_reached.Goals as goal

-- the ends of edge i are nodes
ends : (e : Case) → Shaped e → (i u v : ℕ) → i < e.edges → u ≡ e.from i → v ≡ e.to i → (u < e.nodes) × (v < e.nodes)
ends e w i u v h from to = (omega (arith, w.ends i h), omega (arith, w.ends i h))

pub loop-i-init : goal.loop-i-init
unfolding case_of
loop-i-init c =
    (refl, marks_start _ _ _ _ (omega arith) c.requires.laid.nodes_low (omega (arith, c.requires.laid.nodes_high, c.requires.most_nodes_in_bounds)) c.fill.ensures)

pub bounds-table-u : goal.bounds-table-u
unfolding case_of
bounds-table-u c =
    omega (arith, ends _ c.requires.shaped _ _ _ c.loop-i-test.true c.from_at-u.ensures c.to_at-v.ensures, c.loop-i.invariant.1.room)

pub bounds-table-v : goal.bounds-table-v
unfolding case_of
bounds-table-v c =
    omega (arith, ends _ c.requires.shaped _ _ _ c.loop-i-test.true c.from_at-u.ensures c.to_at-v.ensures, c.loop-i.invariant.1.room)

pub bounds-table-v-in-loop-i : goal.bounds-table-v-in-loop-i
unfolding case_of
bounds-table-v-in-loop-i c =
    omega (arith, ends _ c.requires.shaped _ _ _ c.loop-i-test.true c.from_at-u.ensures c.to_at-v.ensures, c.loop-i.invariant.1.room)

pub loop-i-preserved : goal.loop-i-preserved
unfolding case_of
loop-i-preserved c =
    let o = c.loop-i in
    let n = ends _ c.requires.shaped _ _ _ c.loop-i-test.true c.from_at-u.ensures c.to_at-v.ensures in
    (length-set o.table _ _ ∙ o.invariant.0, marks_more _ _ _ _ _ o.invariant.1 c.from_at-u.ensures c.to_at-v.ensures n.0 n.1)

pub shape_of-table : goal.shape_of-table
shape_of-table c =
    c.loop-i.invariant.0 ∙ length-set c.fill.new.table 0 1 ∙ c.fill.ensures.same

pub returns : goal.returns
unfolding case_of
returns c =
    holds_end (λ v i. bit (reached_to (case_of c.args.file.now c.args.trailer) v i)) _ _ _ _ c.loop-i.invariant.1 (omega arith) c.loop-i-test.false

pub bounds-table-0 : goal.bounds-table-0
bounds-table-0 c = omega (arith, c.requires.most_nodes_in_bounds)
