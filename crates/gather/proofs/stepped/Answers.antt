-- `gather::stepped`: one return for each branch of the rule.
use mathlib.Core.Path.{refl, sym, ◌∙◌}
use borrow.Author.Tests.{eq-eqb, ne_eqb}
use Rattle.search.specs.Steps.{stepped}
use Rattle.gather.proofs.stepped.Goals as goal

pub returns-then-s-eq-MANY : goal.returns-then-s-eq-MANY
unfolding stepped
returns-then-s-eq-MANY c = λ e t k. rw (eq-eqb _ _ c.if-s-eq-MANY.true) refl

pub returns-then-x-q : goal.returns-then-x-q
unfolding stepped
returns-then-x-q c =
    λ e t k. rw (ne_eqb _ _ c.if-s-eq-MANY.false, eq-eqb _ t.block (c.if-x-q.true ∙ k.block)) c.opened.ensures

pub returns-then-r-eq-UNFETCHED : goal.returns-then-r-eq-UNFETCHED
unfolding stepped
returns-then-r-eq-UNFETCHED c =
    λ e t k. rw (ne_eqb _ _ c.if-s-eq-MANY.false, ne_eqb _ t.block (λ p. c.if-x-q.false (p ∙ sym k.block)), eq-eqb _ _ c.if-r-eq-UNFETCHED.true) refl

pub returns-then-r-eq-MANY : goal.returns-then-r-eq-MANY
unfolding stepped
returns-then-r-eq-MANY c =
    λ e t k. rw (ne_eqb _ _ c.if-s-eq-MANY.false, ne_eqb _ t.block (λ p. c.if-x-q.false (p ∙ sym k.block)), ne_eqb _ _ c.if-r-eq-UNFETCHED.false, eq-eqb _ _ c.if-r-eq-MANY.true) c.plain.ensures

pub returns : goal.returns
unfolding stepped
returns c =
    λ e t k.
    rw (ne_eqb _ _ c.if-s-eq-MANY.false, ne_eqb _ t.block (λ p. c.if-x-q.false (p ∙ sym k.block)), ne_eqb _ _ c.if-r-eq-UNFETCHED.false, ne_eqb _ _ c.if-r-eq-MANY.false, ← c.opened-2.ensures)
    (c.handed.ensures e t k)
