-- What a filled part leaves of a table; and a table that holds one number for each node, loop by loop.
use Prim.Native.Nat.{ℕ, ◌≤◌, ◌<◌}
use native.Mathlib.Omega.{arith}
use native.Mathlib.Decide.{dec_le, dec_lt}
use mathlib.Core.Path.{◌≡◌, sym, ◌∙◌}
use mathlib.Core.List.{List}
use lib.ListN.{length, get_or}
use Rattle.graph.specs.Filled.{Filled, Holds}

module _ {old new : List ℕ} {a z x : ℕ} (w : Filled old new a z x) where
  pub filled_out : (k : ℕ) → ¬ ((a ≤ k) × (k < z)) → get_or new k 0 ≡ get_or old k 0
  filled_out k n =
      elim (dec_lt k a) [
        | yes p ↦ w.below k p
        | no p ↦ elim (dec_le z k) [ yes q ↦ w.above k q | no q ↦ absurd (n (omega arith, omega arith)) ]
      ]

  -- a whole table of one number
  pub holds_start : (n : ℕ) (g : ℕ → ℕ) → a ≡ 0 → n ≤ z → n ≤ length old → ((v : ℕ) → g v ≡ x) → Holds g n new
  holds_start n g p q r h = record { room = omega (arith, w.same); at = λ v l. w.within v (omega arith) (omega arith) ∙ sym (h v) }

-- the loop over the loops has come to its end
pub holds_end : (g : ℕ → ℕ → ℕ) (m n j : ℕ) (l : List ℕ) → Holds (λ v. g v j) m l → j ≤ n → n ≤ j → Holds (λ v. g v n) m l
holds_end g m n j l trailer p q =
    let e : n ≡ j = omega arith in
    rw e trailer
