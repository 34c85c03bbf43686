-- A list that is too short is refused first; else the layout's refusal, or the ruling on what was read, is the verdict.
use Rattle.std.specs.Prelude.{Err}
use borrow.Author.Rules.{rules}
use mathlib.Core.Path.{◌≡◌, refl, sym, ◌∙◌}
use Rattle.layout.proofs.Laws.{read_laid}
use Rattle.bolgverk.proofs.Checking.{too_short, layout_refused, ruled_check}
use Rattle.bolgverk.proofs.check.Goals as goal

pub returns-then-numbers-lt-LIST_LENGTH : goal.returns-then-numbers-lt-LIST_LENGTH
returns-then-numbers-lt-LIST_LENGTH c = too_short _ _ _ _ c.if-numbers-lt-LIST_LENGTH.true c.refuse.ensures

pub rule_on-requires : goal.rule_on-requires
rule_on-requires c =
    let e = sym c.layout_of.ensures ∙ c.in_ok-trailer.was in
    record { laid = read_laid _ _ e; list_length_in_bounds = c.if-numbers-lt-LIST_LENGTH.false }

pub returns : goal.returns
returns c =
    ruled_check _ _ _ c.if-numbers-lt-LIST_LENGTH.false _ (sym c.in_ok-trailer.was ∙ c.layout_of.ensures) _ refl _ _ c.rule_on.ensures

pub returns-in_err-trailer : goal.returns-in_err-trailer
returns-in_err-trailer c =
    let e : c.from_residual.result ≡ Err c.in_err-trailer.field-0.0 = search rules in
    rw e (layout_refused _ _ _ c.if-numbers-lt-LIST_LENGTH.false _ (sym c.in_err-trailer.was ∙ c.layout_of.ensures) _ refl)
