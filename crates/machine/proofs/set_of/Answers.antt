-- Sets first, then the block; the remainder is below the number of sets.
use mathlib.Core.Path.{sym, ◌∙◌}
use borrow.Author.Tests.{eq-eqb, ne_eqb}
use Rattle.paper.specs.Operations.{set_answer}
use Rattle.paper.proofs.Says.{says_true}
use Rattle.paper.proofs.States.{says_sets}
use Rattle.machine.proofs.set_of.Goals as goal

pub returns-then-not-is_set_count : goal.returns-then-not-is_set_count
unfolding set_answer
returns-then-not-is_set_count c = rw (← c.is_set_count.ensures, c.if-not-is_set_count.true, ← c.refuse.ensures)

pub returns-then-block-eq65535 : goal.returns-then-block-eq65535
unfolding set_answer
returns-then-block-eq65535 c =
    rw (← c.is_set_count.ensures, c.if-not-is_set_count.false, eq-eqb _ _ c.if-block-eq65535.true, ← c.refuse-then-block-eq65535.ensures)

pub home-q-requires : goal.home-q-requires
home-q-requires c =
    says_true (says_sets _) (sym c.is_set_count.ensures ∙ c.if-not-is_set_count.false)

pub returns : goal.returns
unfolding set_answer
returns c =
    rw (← c.is_set_count.ensures, c.if-not-is_set_count.false, ne_eqb _ _ c.if-block-eq65535.false, ← c.home-q.ensures.value)
