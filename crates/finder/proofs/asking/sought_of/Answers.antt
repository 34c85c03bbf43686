-- `finder::asking::sought_of`: what is read of the file says what is sought.
use native.Mathlib.Omega.{arith}
use mathlib.Core.Path.{refl}
use Rattle.finder.proofs.Asked.{scoped, fits}
use Rattle.finder.proofs.asking.sought_of.Goals as goal

pub returns-clause-scoped : goal.returns-clause-scoped
returns-clause-scoped c =
    scoped _ _ c.requires.laid c.requires.shaped _ c.requires.scope_lt_loops _ c.range_at-range.ensures refl refl refl c.of-sets.ensures c.home.ensures.value

pub invariant_of-result : goal.invariant_of-result
invariant_of-result c =
    let k = fits _ _ c.requires.laid c.requires.shaped _ c.requires.scope_lt_loops _ c.range_at-range.ensures in
    record { rises = k.0; within = omega (arith, k.1, c.requires.laid.nodes_high) }
