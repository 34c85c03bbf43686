-- `finder::asking::sought_rules`: the chain by the outcomes of its tests.
use Rattle.std.specs.Prelude.{Err}
use mathlib.Core.Path.{refl, sym, ◌∙◌, ap}
use mathlib.Core.Bool.{true, false}
use lib.Dec.{ltb}
use borrow.Author.Tests.{lt-ltb, le-ltb}
use Rattle.finder.proofs.Asked.{head_told, named, unfetched_told, length_is, sought_is}
use Rattle.finder.proofs.asking.sought_rules.Goals as goal

pub returns-then-wrong_head : goal.returns-then-wrong_head
returns-then-wrong_head c = ap Err c.refuse.ensures ∙ sought_is _ _ _ true _ _ (head_told _ _ _ _ _ _ c.wrong_head.ensures c.if-wrong_head.true) refl refl

pub sought_of-q-requires-clause-scope_lt_loops : goal.sought_of-q-requires-clause-scope_lt_loops
sought_of-q-requires-clause-scope_lt_loops c =
    named c.args.file.now c.args.trailer _ c.args.block (sym (head_told _ _ _ _ _ _ c.wrong_head.ensures c.if-wrong_head.false))

pub returns-then-unfetched : goal.returns-then-unfetched
returns-then-unfetched c =
    let s = c.sought_of-q.ensures.scope_value in
    ap Err c.refuse-then-unfetched.ensures
    ∙ sought_is _ _ _ false true _ (head_told _ _ _ _ _ _ c.wrong_head.ensures c.if-wrong_head.false)
    (unfetched_told _ _ _ _ c.sought_of-q.result s.0 s.1 _ _ c.unfetched.ensures c.if-unfetched.true) refl

pub returns-then-room-nodes : goal.returns-then-room-nodes
returns-then-room-nodes c =
    let s = c.sought_of-q.ensures.scope_value in
    ap Err c.refuse-then-room-nodes.ensures
    ∙ sought_is _ _ _ false false true (head_told _ _ _ _ _ _ c.wrong_head.ensures c.if-wrong_head.false)
    (unfetched_told _ _ _ _ c.sought_of-q.result s.0 s.1 _ _ c.unfetched.ensures c.if-unfetched.false)
    (sym (lt-ltb _ _ c.if-room-nodes.true) ∙ ap (ltb _) (length_is _ _ _ _ c.sought_of-q.result s.0 s.1 c.sought_of-q.ensures.scoped _ c.nodes.ensures.value))

pub returns : goal.returns
returns c =
    let s = c.sought_of-q.ensures.scope_value in
    sought_is _ _ _ false false false (head_told _ _ _ _ _ _ c.wrong_head.ensures c.if-wrong_head.false)
    (unfetched_told _ _ _ _ c.sought_of-q.result s.0 s.1 _ _ c.unfetched.ensures c.if-unfetched.false)
    (sym (le-ltb _ _ c.if-room-nodes.false) ∙ ap (ltb _) (length_is _ _ _ _ c.sought_of-q.result s.0 s.1 c.sought_of-q.ensures.scoped _ c.nodes.ensures.value))
