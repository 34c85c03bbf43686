-- `bolgverk::all_ways`: the answer brings the rest of the promise with it.
use Prim.Native.Nat.{ℕ}
use mathlib.Core.Path.{◌≡◌, refl}
use mathlib.Core.List.{List}
use Rattle.std.specs.Prelude.{Result}
use Rattle.paper.specs.declared.Refusal.{Refusal}
use Rattle.paper.specs.AllWays.{all_ways}
use Rattle.inclusion.proofs.WaysRuns.{ways_runs, ways_fall}
use Rattle.bolgverk.specs.Promises.{WaysPromise}
use Rattle.bolgverk.proofs.all_ways.Goals as goal

ways-kept : (sets : ℕ) (blocks : List ℕ) (r : Result (List ℕ) Refusal) → r ≡ all_ways sets blocks → WaysPromise sets blocks r
ways-kept sets blocks r e = rw e (record { told = refl; runs = ways_runs sets blocks; falls = ways_fall sets blocks })

pub returns : goal.returns
returns c = ways-kept _ _ _ c.all_ways.ensures
