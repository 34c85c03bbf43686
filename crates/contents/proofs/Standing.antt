-- Lists that stand one after another in a list: all of them stand where each of them stands.
use Prim.Native.Nat.{ℕ, zero, suc, ◌+◌, ◌<◌}
use native.Mathlib.Omega.{arith}
use native.Mathlib.Decide.{ℕ_discrete}
use mathlib.Core.List.{List}
use lib.ListN.{length}
use Rattle.paper.specs.Lists.{each}
use Rattle.paper.proofs.Parts.{Stands, stands_left, stands_right, stands_empty, stands_both}

module _ (f : List ℕ) (p : ℕ) where
  -- one of the lists that follow one another
  pub stands_at : (g : ℕ → List ℕ) (n i : ℕ) → i < n → Stands f p (each g n) → Stands f (p + length (each g i)) (g i)
  unfolding each
  stands_at g zero i h a = absurd (omega arith)
  stands_at g (suc n) i h a =
      elim (ℕ_discrete i n) [
        | yes e ↦ rw e (stands_right f p (each g n) (g n) a)
        | no m ↦ stands_at g n i (omega arith) (stands_left f p (each g n) (g n) a)
      ]

  pub stands_each : (g : ℕ → List ℕ) (n : ℕ) → ((i : ℕ) → i < n → Stands f (p + length (each g i)) (g i)) → Stands f p (each g n)
  unfolding each
  stands_each g zero h = stands_empty f p
  stands_each g (suc n) h = stands_both f p (each g n) (g n) (stands_each g n (λ i l. h i (omega arith))) (h n (omega arith))
