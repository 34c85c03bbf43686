-- Accesses eight by eight: where none of eight has block none, the trace is without it up to the next eight.
use Prim.Native.Nat.{ℕ, zero, suc, ◌+◌, ◌-◌, ◌<◌, ◌≤◌}
use native.Mathlib.Nat.{not-suc-le-zero, le_of_suc-le-suc}
use native.Mathlib.Decide.{dec_lt}
use native.Mathlib.Omega.{arith}
use mathlib.Core.Path.{◌≡◌, refl, sym, ◌∙◌, ap}
use mathlib.Core.Bool.{Bool, true, false, ◌||◌, true≢false}
use mathlib.Core.List.{List}
use lib.ListN.{length}
use Rattle.paper.specs.Lists.{table}
use Rattle.paper.specs.Traces.{bad_access}
use Rattle.paper.proofs.Least.{Passed}
use Rattle.trace.specs.Eights.{some_of, Clear}

either : (a b : Bool) → (a || b) ≡ false → (a ≡ false) × (b ≡ false)
either false b h = (refl, h)
either true b h = absurd (true≢false h)

-- none of a table is true
none_of : (g : ℕ → Bool) (n : ℕ) → some_of (table g n) ≡ false → (d : ℕ) → d < n → g d ≡ false
unfolding some_of table
none_of g zero h d q = absurd (not-suc-le-zero q)
none_of g (suc zero) h zero q = h
none_of g (suc zero) h (suc d) q = absurd (not-suc-le-zero (le_of_suc-le-suc q))
none_of g (suc (suc n)) h zero q = (either (g 0) _ h).0
none_of g (suc (suc n)) h (suc d) q = none_of (λ i. g (suc i)) (suc n) (either (g 0) _ h).1 d (le_of_suc-le-suc q)

module _ (blocks : List ℕ) where
  pub clear_start : Clear blocks 0
  clear_start = record { within = omega arith; none = λ j h. absurd (not-suc-le-zero h) }

  pub clear_more : (i : ℕ) → Clear blocks i → i + 8 ≤ length blocks → some_of (table (λ d. bad_access blocks (i + d)) 8) ≡ false → Clear blocks (i + 8)
  clear_more i c h s =
      record {
        within = h;
        none = λ j q.
            elim (dec_lt j i) [
              | yes y ↦ c.none j y
              | no y ↦
                  let e : i + (j - i) ≡ j = omega arith in
                  ap (bad_access blocks) (sym e) ∙ none_of (λ d. bad_access blocks (i + d)) 8 s (j - i) (omega arith)
            ];
      }

  pub clear_passed : (i : ℕ) → Clear blocks i → Passed (bad_access blocks) (length blocks) i
  clear_passed i c = record { within = c.within; none = c.none }
