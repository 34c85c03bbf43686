-- The turn's chain: the head, the order, and then what comes after them.
use Rattle.std.specs.Prelude.{Err}
use mathlib.Core.Path.{refl, sym, ◌∙◌, ap}
use mathlib.Core.Bool.{true, false}
use Rattle.lists.proofs.Turning.{told_refused, told_on, head_is, named, order_is, stands, turn_is}
use Rattle.lists.proofs.turns.FactLists.turn_of.Goals as goal

pub returns-then-wrong_head : goal.returns-then-wrong_head
returns-then-wrong_head c =
    let s = c.args.self.now in
    let head = sym c.if-wrong_head.true ∙ c.wrong_head.ensures ∙ head_is s.trailer s.loops.now s.heads.now s.rows.now c.args.i in
    told_refused _ _ _ _ _ _ _ (ap Err c.refuse.ensures ∙ turn_is s.trailer s.loops.now s.heads.now s.rows.now c.args.i c.args.previous true _ _ head refl refl)

pub range_of-scope-requires : goal.range_of-scope-requires
range_of-scope-requires c =
    let s = c.args.self.now in
    let head = sym c.if-wrong_head.false ∙ c.wrong_head.ensures ∙ head_is s.trailer s.loops.now s.heads.now s.rows.now c.args.i in
    named s.trailer s.loops.now s.heads.now s.rows.now c.args.i (sym head)

pub returns-then-wrong_order : goal.returns-then-wrong_order
returns-then-wrong_order c =
    let s = c.args.self.now in
    let head = sym c.if-wrong_head.false ∙ c.wrong_head.ensures ∙ head_is s.trailer s.loops.now s.heads.now s.rows.now c.args.i in
    let order = sym c.if-wrong_order.true ∙ c.wrong_order.ensures ∙ order_is s.trailer s.loops.now s.heads.now s.rows.now c.args.i _ c.range_of-scope.ensures _ in
    told_refused _ _ _ _ _ _ _
    (ap Err c.refuse-then-wrong_order.ensures ∙ turn_is s.trailer s.loops.now s.heads.now s.rows.now c.args.i c.args.previous false true _ head order refl)

pub weigh-requires-clause-stands : goal.weigh-requires-clause-stands
weigh-requires-clause-stands c =
    let s = c.args.self.now in
    let head = sym c.if-wrong_head.false ∙ c.wrong_head.ensures ∙ head_is s.trailer s.loops.now s.heads.now s.rows.now c.args.i in
    stands s.trailer s.loops.now s.heads.now s.rows.now c.args.i (sym head) s.facts _ c.range_of-scope.ensures _ _ c.requires.p_value c.home-home.ensures.value

pub returns : goal.returns
returns c =
    let s = c.args.self.now in
    let head = sym c.if-wrong_head.false ∙ c.wrong_head.ensures ∙ head_is s.trailer s.loops.now s.heads.now s.rows.now c.args.i in
    let order = sym c.if-wrong_order.false ∙ c.wrong_order.ensures ∙ order_is s.trailer s.loops.now s.heads.now s.rows.now c.args.i _ c.range_of-scope.ensures _ in
    told_on _ _ _ _ _ _ _ _ (turn_is s.trailer s.loops.now s.heads.now s.rows.now c.args.i c.args.previous false false _ head order refl) c.weigh.ensures
