-- `finder::passes::take_edge`: the edge leaves the scope, or keeps the row of its end, or changes it.
use native.Mathlib.Omega.{arith}
use mathlib.Core.Path.{◌∙◌, ap}
use mathlib.Core.Bool.{not}
use Rattle.paper.specs.Files.{case_of}
use Rattle.finder.proofs.OneEdge.{stays, from_low, edge_leaves, edge_keeps, edge_changes}
use Rattle.finder.proofs.passes.take_edge.Goals as goal

pub returns-then-not-contains : goal.returns-then-not-contains
unfolding case_of
returns-then-not-contains c =
    let r = edge_leaves _ _ _ c.requires.scoped.seeks _ _ _ _ c.contains.ensures c.contains-2.ensures _
    c.from_at-u.ensures c.to_at-v.ensures _ (ap not c.if-not-contains.true) in
    record { value = r.0; table_after = r.1 }

pub overflow_sub-at : goal.overflow_sub-at
overflow_sub-at c = (stays c.args.q _ _ _ _ c.contains.ensures c.contains-2.ensures (ap not c.if-not-contains.false)).2

pub row_of-old-requires : goal.row_of-old-requires
row_of-old-requires c = omega (arith, stays c.args.q _ _ _ _ c.contains.ensures c.contains-2.ensures (ap not c.if-not-contains.false), c.args.q.within)

pub overflow_sub-u : goal.overflow_sub-u
overflow_sub-u c = (stays c.args.q _ _ _ _ c.contains.ensures c.contains-2.ensures (ap not c.if-not-contains.false)).0

pub row_of-r-requires : goal.row_of-r-requires
row_of-r-requires c = omega (arith, stays c.args.q _ _ _ _ c.contains.ensures c.contains-2.ensures (ap not c.if-not-contains.false), c.args.q.within)

pub node_at-requires-clause-v_lt_nodes : goal.node_at-requires-clause-v_lt_nodes
node_at-requires-clause-v_lt_nodes c = omega (arith, stays c.args.q _ _ _ _ c.contains.ensures c.contains-2.ensures (ap not c.if-not-contains.false), c.requires.scoped.within)

pub stepped-new-requires : goal.stepped-new-requires
stepped-new-requires c =
    from_low _ _ _ c.requires.scoped.seeks _ _ _ _ c.contains.ensures c.contains-2.ensures (ap not c.if-not-contains.false) _ c.requires.searched _ c.row_of-r.ensures

pub returns-then-new-old : goal.returns-then-new-old
unfolding case_of
returns-then-new-old c =
    let k = c.requires.scoped.seeks in
    let r = edge_keeps _ _ _ k _ _ _ _ c.contains.ensures c.contains-2.ensures _
    c.from_at-u.ensures c.to_at-v.ensures _ _ _ _ _
    c.row_of-r.ensures c.row_of-old.ensures c.node_at.ensures (c.stepped-new.ensures _ _ k) c.if-new-old.true in
    record { value = r.0; table_after = r.1 }

pub put_row-requires : goal.put_row-requires
put_row-requires c = omega (arith, stays c.args.q _ _ _ _ c.contains.ensures c.contains-2.ensures (ap not c.if-not-contains.false), c.args.q.within)

pub returns : goal.returns
unfolding case_of
returns c =
    let k = c.requires.scoped.seeks in
    let w = edge_changes _ _ _ k _ _ _ _ c.contains.ensures c.contains-2.ensures _
    c.from_at-u.ensures c.to_at-v.ensures _ _ _ _ _
    c.row_of-r.ensures c.row_of-old.ensures c.node_at.ensures (c.stepped-new.ensures _ _ k) (ap not c.if-not-contains.false) c.if-new-old.false in
    record { value = w.0; table_after = c.put_row.ensures ∙ w.1 }
