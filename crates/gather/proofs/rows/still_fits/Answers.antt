-- `gather::rows::still_fits`: 32 bits hold one more than any 16.
use Prim.Native.Nat.{◌+◌}
use native.Mathlib.Numerals.{add-one}
use native.Mathlib.Omega.{arith}
use mathlib.Core.Path.{refl}
use borrow.Author.Tests.{ltb-true}
use Rattle.gather.proofs.rows.still_fits.Goals as goal

pub returns : goal.returns
returns c =
    record { value = rw (add-one c.args.n) refl; n_bound = λ h. omega (arith, ltb-true (c.args.n + 1) c.args.k h) }
