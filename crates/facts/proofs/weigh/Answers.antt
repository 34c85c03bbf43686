-- `weigh` answers as the body's chain.
use Rattle.std.specs.Prelude.{Ok, Err}
use borrow.Author.Rules.{rules}
use mathlib.Core.Path.{◌≡◌, refl, sym, ◌∙◌, ap}
use mathlib.Core.Bool.{true, false}
use Rattle.facts.proofs.Told.{told_refused, told_kept}
use Rattle.facts.proofs.Bodies.{cut_is, whole, next_of, body_is}
use Rattle.facts.proofs.weigh.Goals as goal

pub returns-then-unfetched : goal.returns-then-unfetched
returns-then-unfetched c =
    let s = c.requires.stands in
    told_refused _ _ _ _ _
    (ap Err c.refuse.ensures ∙ body_is _ _ _ s _ true _ _ (sym c.if-unfetched.true ∙ c.unfetched.ensures) refl refl)

pub returns-then-short_of : goal.returns-then-short_of
returns-then-short_of c =
    let s = c.requires.stands in
    told_refused _ _ _ _ _
    (ap Err c.refuse-then-short_of.ensures
    ∙ body_is _ _ _ s _ false true _ (sym c.if-unfetched.false ∙ c.unfetched.ensures)
    (sym c.if-short_of.true ∙ cut_is _ _ _ s _ _ c.nodes.ensures.value c.rows_size-rows.ensures _ c.short_of.ensures)
    refl)

pub evidence_rules-requires : goal.evidence_rules-requires
evidence_rules-requires c =
    record { laid = c.requires.laid; shaped = c.requires.shaped; stands = c.requires.stands; whole = whole _ _ _ c.requires.stands _ _ c.nodes.ensures.value c.rows_size-rows.ensures _ c.short_of.ensures c.if-short_of.false }

pub returns-in_err-evidence_rules : goal.returns-in_err-evidence_rules
returns-in_err-evidence_rules c =
    let s = c.requires.stands in
    let why = c.in_err-evidence_rules.field-0.0 in
    let e : c.from_residual.result ≡ Err why = search rules in
    rw e (told_refused _ _ _ _ _
    (body_is _ _ _ s _ false false (Err why) (sym c.if-unfetched.false ∙ c.unfetched.ensures)
    (sym c.if-short_of.false ∙ cut_is _ _ _ s _ _ c.nodes.ensures.value c.rows_size-rows.ensures _ c.short_of.ensures)
    (sym c.in_err-evidence_rules.was ∙ c.evidence_rules.ensures)))

pub returns : goal.returns
returns c =
    let s = c.requires.stands in
    let e = c.nodes.ensures.value in
    told_kept _ _ _ _ _
    (body_is _ _ _ s _ false false (Ok tt) (sym c.if-unfetched.false ∙ c.unfetched.ensures)
    (sym c.if-short_of.false ∙ cut_is _ _ _ s _ _ e c.rows_size-rows.ensures _ c.short_of.ensures)
    (sym c.in_ok-evidence_rules.was ∙ c.evidence_rules.ensures))
    (next_of _ _ _ s _ _ e c.rows_size-rows.ensures _ c.short_of.ensures c.if-short_of.false)
