-- `onepass::all_ways`: the refusals are asked for in the request's order, and each answer is the one of the definition.
use Rattle.std.specs.Prelude.{Ok}
use mathlib.Core.Path.{◌≡◌, sym, ◌∙◌, ap}
use mathlib.Core.Bool.{Bool, true}
use Rattle.onepass.proofs.Answers.{ways_3, ways_21, ways_counted, pass_ready}
use Rattle.onepass.proofs.all_ways.Goals as goal

-- past the first refusal
passed : {b t : Bool} → b ≡ t → b ≡ true → t ≡ true
passed e q = sym e ∙ q

pub returns-then-not-is_set_count : goal.returns-then-not-is_set_count
returns-then-not-is_set_count c = ways_3 _ _ _ c.refuse.ensures (sym c.is_set_count.ensures ∙ c.if-not-is_set_count.true)

pub returns-then-at-blocks : goal.returns-then-at-blocks
returns-then-at-blocks c =
    ways_21 _ _ (passed c.is_set_count.ensures c.if-not-is_set_count.false) _ c.bad_access-at.ensures _ c.refuse-then-at-blocks.ensures c.if-at-blocks.true

pub counts-requires : goal.counts-requires
counts-requires c = pass_ready _ _ (passed c.is_set_count.ensures c.if-not-is_set_count.false) _ c.bad_access-at.ensures c.if-at-blocks.false

pub returns : goal.returns
returns c =
    ap Ok c.counts.ensures ∙ ways_counted _ _ (passed c.is_set_count.ensures c.if-not-is_set_count.false) _ c.bad_access-at.ensures c.if-at-blocks.false
