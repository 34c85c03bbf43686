-- `gather::rows::put_slots`: one slot more in each turn.
use Prim.Native.Nat.{ℕ, suc, ◌+◌}
use native.Mathlib.Omega.{arith}
use native.Mathlib.Numerals.{add-one}
use mathlib.Core.Path.{◌≡◌, refl, ◌∙◌, ap}
use mathlib.Core.List.{List}
use lib.ListN.{get_or}
use borrow.Author.Rules.{rules}
use Rattle.search.specs.Steps.{put, put_slots}
use Rattle.gather.proofs.rows.put_slots.Goals as goal

pub loop-i-init : goal.loop-i-init
unfolding put_slots
loop-i-init c = (refl, search rules)

more : (k : ℕ) (r s all next : List ℕ) (i : ℕ) → all ≡ put_slots k r s i → next ≡ put k all (get_or r (i + 1) 0) → next ≡ put_slots k r s (i + 1)
unfolding put_slots
more k r s all next i p q = rw (add-one i) ((rw (add-one i) at q) ∙ ap (λ (a : List ℕ). put k a (get_or r (suc i) 0)) p)

pub loop-i-preserved : goal.loop-i-preserved
loop-i-preserved c = (more _ _ _ _ _ _ c.loop-i.invariant.0 c.put-next.ensures, search rules)

pub returns : goal.returns
returns c =
    let e : c.loop-i.i ≡ c.args.n = omega (arith, c.loop-i-test.false) in
    c.loop-i.invariant.0 ∙ ap (put_slots _ _ _) e
