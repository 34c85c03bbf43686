-- `finder::limits::asks`: the one comparison decides.
use native.Mathlib.Numerals.{add-one}
use mathlib.Core.Path.{refl}
use borrow.Author.Tests.{eq-eqb, ne_eqb}
use Rattle.search.specs.Passes.{asks}
use Rattle.finder.proofs.limits.asks.Goals as goal

pub returns-then-n-eq-UNFETCHED : goal.returns-then-n-eq-UNFETCHED
unfolding asks
returns-then-n-eq-UNFETCHED c = rw (eq-eqb _ _ c.if-n-eq-UNFETCHED.true) refl

pub returns : goal.returns
unfolding asks
returns c = rw (ne_eqb _ _ c.if-n-eq-UNFETCHED.false) (add-one _)
