-- The test is the definition, in its order.
use mathlib.Core.Path.{sym}
use mathlib.Core.Logic.{⊎_elim, inl, inr}
use borrow.Author.Tests.{ne_eqb}
use Rattle.paper.specs.Machines.{stands}
use Rattle.paper.specs.Operations.{line_size}
use Rattle.machine.proofs.is_line_size.Goals as goal

pub returns-in-8 : goal.returns-in-8
unfolding line_size stands
returns-in-8 c = ⊎_elim (λ e. rw e) (⊎_elim (λ e. rw e) (⊎_elim (λ e. rw e) (⊎_elim (λ e. rw e) (λ e. rw e)))) c.in-8.is

pub returns-in_default : goal.returns-in_default
unfolding line_size stands
returns-in_default c =
    let r = c.in_default.in_default-own.rest.1 in
    rw (
      ne_eqb 8 _ (λ e. r (inl (sym e))),
      ne_eqb 16 _ (λ e. r (inr (inl (sym e)))),
      ne_eqb 32 _ (λ e. r (inr (inr (inl (sym e))))),
      ne_eqb 64 _ (λ e. r (inr (inr (inr (inl (sym e)))))),
      ne_eqb 128 _ (λ e. r (inr (inr (inr (inr (sym e)))))),
    )
