-- `patterns::miss`: a space and the line's digit for the tree, and nothing for NMRU.
use native.Mathlib.Omega.{arith}
use mathlib.Core.Path.{sym}
use Rattle.puts.proofs.Putting.{fits_as}
use Rattle.patterns.proofs.PatternTexts.{put_same}
use Rattle.patterns.proofs.ShownLaws.{shown_tree, victim_low, miss_none, miss_some, put_nothing}
use Rattle.patterns.proofs.miss.Goals as goal

pub returns-then-not-tree : goal.returns-then-not-tree
returns-then-not-tree c = let a = c.args in put_same (sym (miss_none a.tree a.k a.p (c.if-not-tree.true))) put_nothing

pub taken-requires : goal.taken-requires
taken-requires c =
    let r = shown_tree _ _ _ c.requires.shown (c.if-not-tree.false) in
    record { k_value = r.0; p_bound = r.1 }

pub overflow_add-digit : goal.overflow_add-digit
overflow_add-digit c =
    omega (arith, c.taken.ensures, victim_low c.args.k (shown_tree _ _ _ c.requires.shown (c.if-not-tree.false)).0 c.args.p)

pub word-requires : goal.word-requires
word-requires c =
    fits_as (miss_some c.args.tree c.args.k c.args.p _ (c.if-not-tree.false) c.taken.ensures) c.requires.fits

pub returns : goal.returns
returns c =
    let a = c.args in
    put_same (sym (miss_some a.tree a.k a.p _ (c.if-not-tree.false) c.taken.ensures)) c.word.ensures
