-- The fact ends before the trailer, so that its head can be read; its scope is a loop or the whole graph, which lies in the graph.
use native.Mathlib.Omega.{arith}
use mathlib.Core.Path.{◌∙◌}
use Rattle.charge.proofs.FactCosts.{scope_low, scope_fits, head_room, next_is, head_is}
use Rattle.charge.proofs.asked.Asked.head_at.Goals as goal

pub scope_at-scope-requires : goal.scope_at-scope-requires
scope_at-scope-requires c = head_room _ _ _ c.requires.p_bound

pub block_at-block-requires : goal.block_at-block-requires
block_at-block-requires c = head_room _ _ _ c.requires.p_bound

pub limit_at-limit-requires : goal.limit_at-limit-requires
limit_at-limit-requires c = head_room _ _ _ c.requires.p_bound

pub range_at-range-requires-clause-w_lt_loops : goal.range_at-range-requires-clause-w_lt_loops
range_at-range-requires-clause-w_lt_loops c = scope_low _ _ _ _ c.scope_at-scope.ensures c.requires.sound_head

pub fact_end-requires : goal.fact_end-requires
fact_end-requires c =
    let fits = scope_fits _ _ _ _ _ c.args.self.now.ready (scope_low _ _ _ _ c.scope_at-scope.ensures c.requires.sound_head) c.range_at-range.ensures in
    record { first_le_last = fits.0; s_in_bounds = omega (arith, next_is _ _ _ _ _ c.scope_at-scope.ensures c.range_at-range.ensures, c.requires.p_bound) }

pub returns : goal.returns
returns c =
    head_is _ _ _ _ _ _ _ _ c.scope_at-scope.ensures c.block_at-block.ensures c.limit_at-limit.ensures c.range_at-range.ensures
    (c.fact_end.ensures ∙ next_is _ _ _ _ _ c.scope_at-scope.ensures c.range_at-range.ensures)
