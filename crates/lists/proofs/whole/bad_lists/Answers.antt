-- The numbers first, so that the rows that the heads name can be added.
use Prim.Native.Nat.{◌/◌}
use native.Mathlib.Omega.{arith}
use lib.ListN.{length}
use Rattle.paper.specs.Files.{bad_numbers}
use Rattle.paper.specs.Writing.{trailer_in, rows_named, bad_lists}
use Rattle.lists.specs.Listed.{plain}
use Rattle.lists.proofs.Wholes.{or_right, or_left, few}
use Rattle.lists.proofs.whole.bad_lists.Goals as goal

pub returns-then-nodes-edges : goal.returns-then-nodes-edges
unfolding bad_numbers trailer_in
returns-then-nodes-edges c =
    let a = c.args in
    or_right (bad_lists (plain a.version a.nodes.now a.edges.now a.loops.now a.heads.now a.rows.now)) _ (rw c.per_loop-per.ensures.value at c.if-nodes-edges.true)

pub rows_named-requires-clause-n_bound : goal.rows_named-requires-clause-n_bound
rows_named-requires-clause-n_bound c =
    let a = c.args in
    few (length a.nodes.now) (length a.edges.now / 2) (length a.loops.now / c.per_loop-per.result) (length a.heads.now / 4) c.if-nodes-edges.false

pub overflow_mul-result : goal.overflow_mul-result
overflow_mul-result c =
    let a = c.args in
    omega (arith, c.rows_named.ensures.upper_bound, few (length a.nodes.now) (length a.edges.now / 2) (length a.loops.now / c.per_loop-per.result) (length a.heads.now / 4) c.if-nodes-edges.false)

pub returns : goal.returns
unfolding bad_numbers trailer_in bad_lists rows_named
returns c =
    let a = c.args in
    rw (c.rows_named.ensures.value, c.per_loop-per.ensures.value)
    (or_left (bad_lists (plain a.version a.nodes.now a.edges.now a.loops.now a.heads.now a.rows.now)) _ (rw c.per_loop-per.ensures.value at c.if-nodes-edges.false))
