-- The edge comes from a node of the scope; of an edge that breaks its rule that node's block and row tell which.
use native.Mathlib.Omega.{arith}
use mathlib.Core.Path.{refl}
use borrow.Author.Tests.{eq-eqb, ne_eqb}
use Rattle.evidence.proofs.OneStep.{step_inside, step_told_lem}
use Rattle.evidence.proofs.steps.step_number.Goals as goal

pub node_at-requires : goal.node_at-requires
node_at-requires c =
    record { laid = c.requires.laid; v_lt_nodes = omega (arith, step_inside _ _ _ c.requires.stands _ c.requires.bad_step.bad, c.from_at-u.ensures, c.requires.stands.within) }

pub returns-then-node_at-h : goal.returns-then-node_at-h
returns-then-node_at-h c =
    rw (eq-eqb _ _ c.if-node_at-h.true) at
    (step_told_lem _ _ _ c.requires.stands _ c.requires.bad_step.bad _ c.node_at.result _ _ c.from_at-u.ensures c.node_at.ensures refl refl)

pub overflow_sub-u : goal.overflow_sub-u
overflow_sub-u c =
    omega (arith, step_inside _ _ _ c.requires.stands _ c.requires.bad_step.bad, c.from_at-u.ensures)

pub row_at-requires : goal.row_at-requires
row_at-requires c =
    record { whole = c.requires.whole; j_bound = omega (arith, step_inside _ _ _ c.requires.stands _ c.requires.bad_step.bad, c.from_at-u.ensures) }

pub returns-then-number_at-eq-MANY : goal.returns-then-number_at-eq-MANY
returns-then-number_at-eq-MANY c =
    rw (ne_eqb _ _ c.if-node_at-h.false, eq-eqb _ _ c.if-number_at-eq-MANY.true) at
    (step_told_lem _ _ _ c.requires.stands _ c.requires.bad_step.bad _ c.node_at.result _ c.number_at.result c.from_at-u.ensures c.node_at.ensures
    c.row_at.ensures.value c.number_at.ensures)

pub returns : goal.returns
returns c =
    rw (ne_eqb _ _ c.if-node_at-h.false, ne_eqb _ _ c.if-number_at-eq-MANY.false) at
    (step_told_lem _ _ _ c.requires.stands _ c.requires.bad_step.bad _ c.node_at.result _ c.number_at.result c.from_at-u.ensures c.node_at.ensures
    c.row_at.ensures.value c.number_at.ensures)
