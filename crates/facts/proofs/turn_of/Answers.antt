-- `turn_of` answers as the turn's chain.
use Rattle.std.specs.Prelude.{Err}
use mathlib.Core.Path.{refl, sym, ◌∙◌, ap}
use mathlib.Core.Bool.{true, false}
use borrow.Author.Tests.{ltb-false}
use Rattle.facts.proofs.Told.{told_refused, told_on}
use Rattle.facts.proofs.Heads.{head_told, named, order_told, stands, turn_is}
use Rattle.facts.proofs.turn_of.Goals as goal

pub returns-then-short_of : goal.returns-then-short_of
returns-then-short_of c =
    told_refused _ _ _ _ _
    (ap Err c.refuse.ensures ∙ turn_is _ _ _ _ _ true _ _ _ (sym c.if-short_of.true ∙ c.short_of.ensures) refl refl refl)

pub names_at-n-requires-clause-p_bound : goal.names_at-n-requires-clause-p_bound
names_at-n-requires-clause-p_bound c = ltb-false _ _ (sym c.short_of.ensures ∙ c.if-short_of.false)

pub returns-then-wrong_head : goal.returns-then-wrong_head
returns-then-wrong_head c =
    told_refused _ _ _ _ _
    (ap Err c.refuse-then-wrong_head.ensures
    ∙ turn_is _ _ _ _ _ false true _ _ (sym c.if-short_of.false ∙ c.short_of.ensures)
    (head_told _ _ _ _ c.names_at-n.ensures _ _ c.wrong_head.ensures c.if-wrong_head.true)
    refl refl)

pub range_at-scope-requires-clause-w_lt_loops : goal.range_at-scope-requires-clause-w_lt_loops
range_at-scope-requires-clause-w_lt_loops c =
    named c.args.file.now c.args.trailer _ _ c.names_at-n.ensures (head_told _ _ _ _ c.names_at-n.ensures _ _ c.wrong_head.ensures c.if-wrong_head.false)

pub returns-then-wrong_order : goal.returns-then-wrong_order
returns-then-wrong_order c =
    told_refused _ _ _ _ _
    (ap Err c.refuse-then-wrong_order.ensures
    ∙ turn_is _ _ _ _ _ false false true _ (sym c.if-short_of.false ∙ c.short_of.ensures)
    (head_told _ _ _ _ c.names_at-n.ensures _ _ c.wrong_head.ensures c.if-wrong_head.false)
    (order_told _ _ _ _ c.names_at-n.ensures _ c.range_at-scope.ensures _ _ _ c.wrong_order.ensures c.if-wrong_order.true)
    refl)

pub weigh-requires-clause-stands : goal.weigh-requires-clause-stands
weigh-requires-clause-stands c =
    stands _ _ _ _ c.names_at-n.ensures (head_told _ _ _ _ c.names_at-n.ensures _ _ c.wrong_head.ensures c.if-wrong_head.false)
    _ c.range_at-scope.ensures c.requires.laid c.requires.shaped _ c.home-home.ensures.value

pub weigh-requires-clause-place_bound : goal.weigh-requires-clause-place_bound
weigh-requires-clause-place_bound c = ltb-false _ _ (sym c.short_of.ensures ∙ c.if-short_of.false)

pub returns : goal.returns
returns c =
    told_on _ _ _ _ _ _
    (turn_is _ _ _ _ _ false false false _ (sym c.if-short_of.false ∙ c.short_of.ensures)
    (head_told _ _ _ _ c.names_at-n.ensures _ _ c.wrong_head.ensures c.if-wrong_head.false)
    (order_told _ _ _ _ c.names_at-n.ensures _ c.range_at-scope.ensures _ _ _ c.wrong_order.ensures c.if-wrong_order.false)
    refl)
    c.weigh.ensures
