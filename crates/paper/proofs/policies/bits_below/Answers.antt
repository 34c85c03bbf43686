-- A number above the last has the last one's parts.
use Prim.Native.Nat.{ℕ, ◌<◌}
use native.Mathlib.Omega.{arith}
use mathlib.Core.Path.{◌≡◌, refl, sym, ap, ◌∙◌}
use borrow.Author.Tests.{ne_eqb}
use Rattle.paper.specs.Policies.{Parts, tree, parts_of}
use Rattle.paper.proofs.policies.bits_below.Goals as goal

beyond : (p : ℕ) → 3 < p → parts_of p ≡ tree
beyond p h = rw (ne_eqb p 0 (omega arith), ne_eqb p 1 (omega arith), ne_eqb p 2 (omega arith)) refl

pub returns-in-Some : goal.returns-in-Some
returns-in-Some c = c.bits_below.ensures ∙ ap (λ (n : ℕ). (parts_of n).bits c.args.k) c.in-Some.ensures

pub returns-in-None : goal.returns-in-None
returns-in-None c = c.bits_below-in-None.ensures ∙ ap (λ (P : Parts). P.bits c.args.k) (sym (beyond c.args.policy c.in-None.ensures))
