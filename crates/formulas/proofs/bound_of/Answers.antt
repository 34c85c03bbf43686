-- Each policy's arm is its own lines of the table.
use native.Mathlib.Omega.{arith}
use mathlib.Core.Path.{refl}
use borrow.Author.Tests.{ne_eqb}
use Rattle.paper.specs.Bounds.{bound_of}
use Rattle.formulas.proofs.bound_of.Goals as goal

pub returns-in-0 : goal.returns-in-0
unfolding bound_of
returns-in-0 c = rw (bound_of, c.in-0.is) refl

pub returns-in-1 : goal.returns-in-1
unfolding bound_of
returns-in-1 c = rw (bound_of, c.in-1.is) c.fifo_bound.ensures

pub returns-in-2 : goal.returns-in-2
unfolding bound_of
returns-in-2 c = rw (bound_of, c.in-2.is) c.nmru_bound.ensures

pub returns-in_default : goal.returns-in_default
unfolding bound_of
returns-in_default c =
    rw (bound_of, ne_eqb c.args.policy 0 (omega arith), ne_eqb c.args.policy 1 (omega arith), ne_eqb c.args.policy 2 (omega arith)) c.tree_bound.ensures
