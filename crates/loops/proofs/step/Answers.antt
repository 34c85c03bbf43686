-- A loop that has the node makes the lesser of W and B times what was taken; else nothing moves. What passes 32 bits is shown as 0 (`shown_large`).
use Prim.Native.Nat.{ℕ, ◌*◌, ◌≤◌}
use native.Mathlib.Omega.{arith}
use native.Mathlib.Nat.{mul-le-mul}
use mathlib.Core.Path.{◌≡◌, refl, sym, ◌∙◌, ap}
use mir.Syntax.{w64}
use mir.Val.{Fits}
use Rattle.paper.specs.declared.Loop.{Loop}
use Rattle.paper.specs.Cases.{inside}
use Rattle.paper.specs.Graphs.{at_most}
use Rattle.loops.specs.Counts.{taken, stepped}
use Rattle.loops.proofs.Shown.{shown_small, shown_large}
use Rattle.loops.proofs.step.Goals as goal

fits : (a b : ℕ) → a ≤ 4294967295 → b ≤ 4294967296 → Fits w64 (a * b)
fits a b h k = record { fits = omega (arith, mul-le-mul h k) }

-- its header visits, before they are shown
visits-are : (l : Loop) (visits n t : ℕ) → n ≡ at_most l.visits (l.bound * t) → t ≡ taken visits → n ≡ at_most l.visits (l.bound * taken visits)
visits-are l visits n t e h = e ∙ ap (λ (k : ℕ). at_most l.visits (l.bound * k)) h

pub returns-then-n-gt4294967295 : goal.returns-then-n-gt4294967295
unfolding inside stepped
returns-then-n-gt4294967295 c =
    rw (c.if-l-node.true, ← visits-are c.args.l _ _ _ c.at_most-n.ensures c.taken.ensures.value) (sym (shown_large _ c.if-n-gt4294967295.true))

pub returns-then-l-node : goal.returns-then-l-node
unfolding inside stepped
returns-then-l-node c =
    rw (c.if-l-node.true, ← visits-are c.args.l _ _ _ c.at_most-n.ensures c.taken.ensures.value) (sym (shown_small _ c.if-n-gt4294967295.false))

pub returns : goal.returns
unfolding inside
returns c = rw c.if-l-node.false refl

pub overflow_mul-l : goal.overflow_mul-l
overflow_mul-l c = fits _ _ (omega arith) c.taken.ensures.upper_bound
