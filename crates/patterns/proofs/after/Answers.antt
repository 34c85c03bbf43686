-- `patterns::after`: the tree's bits, or the entry of the next-bits table, which holds what the rule says.
use native.Mathlib.Omega.{arith}
use Rattle.patterns.proofs.ShownLaws.{shown_tree, after_tree, after_nmru}
use Rattle.patterns.proofs.after.Goals as goal

pub turned-requires : goal.turned-requires
turned-requires c =
    let t = shown_tree _ _ _ c.requires.shown c.if-tree.true in
    record { k_value = t.0; p_bound = t.1; j_lt_k = c.requires.j_lt_k }

pub returns-then-tree : goal.returns-then-tree
returns-then-tree c = let a = c.args in after_tree a.tree a.k a.p _ a.j c.if-tree.true c.turned.ensures

pub overflow_cast-p : goal.overflow_cast-p
overflow_cast-p c = let s = c.requires.shown in omega (arith, s.below, s.shape.byte)

pub after-requires : goal.after-requires
after-requires c = let s = c.requires.shown in omega (arith, c.requires.j_lt_k, s.shape.few)

pub returns : goal.returns
returns c = let a = c.args in after_nmru a.tree a.k a.p _ a.j c.if-tree.false c.after.ensures
