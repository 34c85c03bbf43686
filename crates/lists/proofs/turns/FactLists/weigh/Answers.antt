-- 15, then 16.
use native.Mathlib.Omega.{arith}
use mathlib.Core.Path.{refl}
use borrow.Author.Rules.{rules}
use Rattle.layout.proofs.FirstLaws.{told_first, told_none}
use Rattle.lists.proofs.Turning.{told_refused, told_kept, body_15, body_16, body_kept, next_of, rows_there}
use Rattle.lists.proofs.turns.FactLists.weigh.Goals as goal

pub returns-then-n-h : goal.returns-then-n-h
returns-then-n-h c =
    told_refused _ _ _ _ _ _ _ (body_15 _ _ _ _ _ _ c.requires.stands _ refl (omega (arith, c.if-n-h.true)) _ c.refuse.ensures)

pub bad_rows-requires : goal.bad_rows-requires
bad_rows-requires c =
    let known = c.args.self.now.facts in
    record { judged = record { count = c.of-sets.ensures; home = c.requires.stands.home }; n_in_bounds = rows_there _ _ _ _ _ _ c.requires.stands _ refl known c.requires.i_lt_facts }

pub returns-in-Some : goal.returns-in-Some
returns-in-Some c =
    let bad = told_first _ _ _ c.in-Some.ensures in
    told_refused _ _ _ _ _ _ _ (body_16 _ _ _ _ _ _ c.requires.stands _ refl (omega (arith, c.if-n-h.false)) _ bad.0 bad.1 _ c.refuse_at.ensures)

pub overflow_add-end : goal.overflow_add-end
overflow_add-end c =
    search (rules, rows_there _ _ _ _ _ _ c.requires.stands _ refl c.args.self.now.facts c.requires.i_lt_facts)

pub returns : goal.returns
returns c =
    told_kept _ _ _ _ _ _ _ (body_kept _ _ _ _ _ _ c.requires.stands _ refl (omega (arith, c.if-n-h.false)) _ refl (told_none _ _ c.in_default.ensures))
    (next_of _ _ _ _ _ _ c.requires.stands _ refl)
