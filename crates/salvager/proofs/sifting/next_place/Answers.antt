-- `salvager::sifting::next_place`: the tests are those of the definition, and a range that is read is one of nodes.
use native.Mathlib.Omega.{arith}
use mathlib.Core.Path.{refl, sym, ◌∙◌}
use mathlib.Core.Bool.{true, false}
use borrow.Author.Tests.{ltb-false}
use Rattle.salvager.proofs.Judged.{next_is, scope_is, range_within, rows_end, cut_is}
use Rattle.salvager.proofs.sifting.next_place.Goals as goal

pub returns-then-short_of : goal.returns-then-short_of
returns-then-short_of c =
    let e = c.end_of-end.ensures in
    record { value = e ∙ next_is _ _ _ true _ _ (sym c.if-short_of.true ∙ c.short_of.ensures) refl refl; lower_bound = (omega (arith, e, c.requires.p_bound), omega (arith, e)) }

pub returns-then-wrong_scope : goal.returns-then-wrong_scope
returns-then-wrong_scope c =
    let e = c.end_of-end.ensures in
    record {
      value = e
          ∙ next_is _ _ _ false true _ (sym c.if-short_of.false ∙ c.short_of.ensures) (sym c.if-wrong_scope.true ∙ scope_is _ _ _ c.scope_at-scope.ensures _ _ c.wrong_scope.ensures) refl;
      lower_bound = (omega (arith, e, c.requires.p_bound), omega (arith, e));
    }

pub overflow_add-range : goal.overflow_add-range
overflow_add-range c =
    omega (
      arith,
      range_within _ _ c.args.p _ c.scope_at-scope.ensures _ c.range_at-range.ensures (sym c.wrong_scope.ensures ∙ c.if-wrong_scope.false) c.requires.laid c.requires.shaped,
      c.requires.laid.nodes_high,
    )

pub overflow_sub-range : goal.overflow_sub-range
overflow_sub-range c =
    omega (arith, range_within _ _ c.args.p _ c.scope_at-scope.ensures _ c.range_at-range.ensures (sym c.wrong_scope.ensures ∙ c.if-wrong_scope.false) c.requires.laid c.requires.shaped)

pub returns-then-short_of-2 : goal.returns-then-short_of-2
returns-then-short_of-2 c =
    let e = c.end_of-end.ensures in
    let x = c.scope_at-scope.ensures in
    record {
      value = e
          ∙ next_is _ _ _ false false true (sym c.if-short_of.false ∙ c.short_of.ensures) (sym c.if-wrong_scope.false ∙ scope_is _ _ _ x _ _ c.wrong_scope.ensures)
          (sym c.if-short_of-2.true ∙ cut_is _ _ _ _ x _ c.range_at-range.ensures _ c.rows_size-rows.ensures _ c.short_of-2.ensures);
      lower_bound = (omega (arith, e, c.requires.p_bound), omega (arith, e));
    }

pub returns : goal.returns
returns c =
    let x = c.scope_at-scope.ensures in
    record {
      value = rows_end _ _ _ _ x _ c.range_at-range.ensures _ c.rows_size-rows.ensures
          ∙ next_is _ _ _ false false false (sym c.if-short_of.false ∙ c.short_of.ensures) (sym c.if-wrong_scope.false ∙ scope_is _ _ _ x _ _ c.wrong_scope.ensures)
          (sym c.if-short_of-2.false ∙ cut_is _ _ _ _ x _ c.range_at-range.ensures _ c.rows_size-rows.ensures _ c.short_of-2.ensures);
      lower_bound = (omega arith, ltb-false _ _ (sym c.short_of-2.ensures ∙ c.if-short_of-2.false));
    }
