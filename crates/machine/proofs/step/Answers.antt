-- 3, then 22, then 21, as the definition has them (StepLaws); what is left is a legal state, which is stepped.
use Prim.Native.Nat.{ℕ}
use mathlib.Core.Path.{◌≡◌, sym, ◌∙◌, ap, subst}
use mathlib.Core.Bool.{true}
use Rattle.paper.specs.Machines.{offered, legal, step}
use Rattle.paper.proofs.Says.{says_true}
use Rattle.paper.proofs.States.{says_offered}
use Rattle.paper.proofs.StepLaws.{step_3, step_22, step_21, step_taken}
use Rattle.machine.proofs.step.Goals as goal

pub returns-in_default : goal.returns-in_default
returns-in_default c = c.refused.ensures ∙ sym (step_3 _ _ _ _ c.in_default.ensures)

pub is_legal-requires : goal.is_legal-requires
is_legal-requires c = (says_true (says_offered _ _) c.in-Some.ensures.1).most

pub returns-then-not-is_legal : goal.returns-then-not-is_legal
returns-then-not-is_legal c =
    let l = ap (λ (p : ℕ). legal p c.args.ways c.args.state) (sym c.in-Some.ensures.0) ∙ sym c.is_legal.ensures ∙ c.if-not-is_legal.true in
    c.refused-then-not-is_legal.ensures ∙ sym (step_22 _ _ _ _ c.in-Some.ensures.1 l)

pub returns-then-b : goal.returns-then-b
returns-then-b c =
    let l = ap (λ (p : ℕ). legal p c.args.ways c.args.state) (sym c.in-Some.ensures.0) ∙ sym c.is_legal.ensures ∙ c.if-not-is_legal.false in
    c.refused-then-b.ensures ∙ sym (step_21 _ _ _ _ c.in-Some.ensures.1 l c.if-b.true)

pub take_step-requires : goal.take_step-requires
take_step-requires c =
    let e = sym c.in-Some.ensures.0 in
    record { k_value = subst (λ (p : ℕ). offered p c.args.ways ≡ true) e c.in-Some.ensures.1; state_value = sym c.is_legal.ensures ∙ c.if-not-is_legal.false; block_nonzero = c.if-b.false }

pub returns : goal.returns
returns c =
    let e = c.in-Some.ensures.0 in
    let l = ap (λ (p : ℕ). legal p c.args.ways c.args.state) (sym e) ∙ sym c.is_legal.ensures ∙ c.if-not-is_legal.false in
    let t = c.take_step.ensures ∙ ap (λ (p : ℕ). step p c.args.ways c.args.state c.args.block.0) e in
    c.took.ensures ∙ rw t (sym (step_taken _ _ _ _ c.in-Some.ensures.1 l c.if-b.false))
