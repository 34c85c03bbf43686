-- `paper::policies::Policy::with_ways`: the policy is one of those there are, and has so many ways: the definition.
use Prim.Native.Nat.{ℕ}
use mathlib.Core.Path.{◌≡◌, refl, sym, ◌∙◌, subst}
use mathlib.Core.Bool.{◌&&◌}
use lib.Dec.{leb}
use borrow.Author.Tests.{lt-leb}
use Rattle.paper.specs.declared.policies.Policy.{Policy}
use Rattle.paper.specs.declared.policies.Policy.TheVariants.{Lru, Fifo, Nmru, Tree}
use Rattle.paper.specs.PolicyNumbers.{number_of}
use Rattle.paper.specs.Policies.{parts_of, last_policy}
use Rattle.paper.specs.Machines.{offered}
use Rattle.paper.proofs.policies.Policy.with_ways.Goals as goal

-- each policy's number is one of those there are
known : (p : Policy) (n k : ℕ) → number_of p ≡ n → (parts_of (number_of p)).ways k ≡ offered n k
unfolding offered
known p n k e =
    subst (λ (x : ℕ). (parts_of (number_of p)).ways k ≡ (leb x last_policy && (parts_of x).ways k)) e
    (elim p as (λ q. (parts_of (number_of q)).ways k ≡ (leb (number_of q) last_policy && (parts_of (number_of q)).ways k)) [ Lru ↦ refl | Fifo ↦ refl | Nmru ↦ refl | Tree ↦ refl ])

pub returns-then-has_ways : goal.returns-then-has_ways
returns-then-has_ways c =
    let e = c.in_ok-policy.ensures in
    (e, sym (known c.in_ok-policy.policy _ _ e) ∙ sym c.if-has_ways.ensures)

pub returns-else-has_ways : goal.returns-else-has_ways
returns-else-has_ways c = sym (known c.in_ok-policy.policy _ _ c.in_ok-policy.ensures) ∙ sym c.if-has_ways.ensures

pub returns-in_err-policy : goal.returns-in_err-policy
unfolding offered
returns-in_err-policy c =
    rw (c.from_residual.ensures, lt-leb c.args.number last_policy c.in_err-policy.ensures)
