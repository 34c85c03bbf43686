-- A loop over edges or loops carries what stood before; at index 0 that counts for nothing.
use Prim.Native.Nat.{ℕ, zero, suc, ◌+◌, ◌-◌, ◌<◌}
use native.Mathlib.Omega.{arith}
use mathlib.Core.Path.{◌≡◌, refl}
use mathlib.Core.Bool.{Bool, not, ◌&&◌}
use lib.Dec.{ltb, leb}
use Rattle.paper.specs.declared.Loop.{Loop}
use Rattle.paper.specs.Cases.{Case}
use Rattle.paper.specs.Graphs.{rises_from, wrong_edge, wrong_loop, bad_edge, bad_loop}

-- a is g's value at the index before i, if there is one
pub record IsBefore (g : ℕ → ℕ) (i a : ℕ) : Type 0 where
  pub is : 0 < i → a ≡ g (i - 1)

module _ (g : ℕ → ℕ) where
  pub before_start : (a : ℕ) → IsBefore g 0 a
  before_start a = record { is = λ h. absurd (omega arith) }

  pub before_more : (i x : ℕ) → x ≡ g i → IsBefore g (i + 1) x
  before_more i x e =
      let z : i + 1 - 1 ≡ i = omega arith in
      record { is = λ h. rw z e }

  guarded : (k : ℕ → Bool) (i a : ℕ) → IsBefore g i a → (ltb 0 i && k a) ≡ (ltb 0 i && k (g (i - 1)))
  guarded k zero a h = refl
  guarded k (suc i) a h = rw (h.is (omega arith)) refl

-- the rules at an index, by what stood before it
module _ (e : Case) (i : ℕ) where
  pub edge_after :
      (a b u v : ℕ) → IsBefore e.from i a → IsBefore e.to i b → u ≡ e.from i → v ≡ e.to i → wrong_edge e.nodes i a b u v ≡ bad_edge e i
  unfolding wrong_edge bad_edge
  edge_after a b u v p q f t =
      rw (
        f,
        t,
        guarded e.from (λ x. not (rises_from x b (e.from i) (e.to i))) i a p,
        guarded e.to (λ x. not (rises_from (e.from (i - 1)) x (e.from i) (e.to i))) i b q,
      )
      refl

  pub loop_after : (a : ℕ) (l : Loop) → IsBefore (λ j. (e.loop j).first) i a → l ≡ e.loop i → wrong_loop e.nodes e.loop i a l ≡ bad_loop e i
  unfolding wrong_loop bad_loop
  loop_after a l p f = rw (f, guarded (λ j. (e.loop j).first) (leb (e.loop i).first) i a p) refl
