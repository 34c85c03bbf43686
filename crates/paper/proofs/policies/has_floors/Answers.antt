-- FIFO alone has floors.
use Prim.Native.Nat.{ℕ}
use native.Mathlib.Omega.{arith}
use mathlib.Core.Path.{◌≡◌}
use lib.Dec.{eqb}
use borrow.Author.Tests.{eq-eqb, ne_eqb}
use Rattle.paper.specs.Policies.{parts_of}
use Rattle.paper.proofs.PolicyLaws.{by_policy}
use Rattle.paper.proofs.policies.has_floors.Goals as goal

fifo-alone : (p : ℕ) → eqb p 1 ≡ (parts_of p).floors
fifo-alone p =
    by_policy (λ P. eqb p 1 ≡ P.floors) p
    (λ e. ne_eqb p 1 (omega arith))
    (λ e. eq-eqb p 1 e)
    (λ e. ne_eqb p 1 (omega arith))
    (λ h. ne_eqb p 1 (omega arith))

pub returns : goal.returns
returns c = fifo-alone c.args.policy
