-- The laws of the loop that reads the file's loops into records, and of counts over these.
use Prim.Native.Nat.{ℕ, suc, ◌+◌, ◌≤◌, ◌<◌}
use native.Mathlib.Omega.{arith}
use native.Mathlib.Decide.{ℕ_discrete}
use mathlib.Core.Path.{◌≡◌, ◌∙◌}
use mathlib.Core.List.{List}
use lib.ListN.{length, get_or, set, length-set}
use lib.Seq.{get_or-set_same, get_or-set_other}
use Rattle.paper.specs.declared.Loop.{Loop}
use Rattle.paper.specs.declared.Trailer.{Trailer}
use Rattle.paper.specs.Files.{loop_at, case_of}
use Rattle.paper.specs.Known.{Shaped}
use Rattle.loops.specs.Counts.{no_loop, count_to, shown, count_in}
use Rattle.loops.specs.Handed.{Handed}
use Rattle.loops.proofs.Shown.{counts_shown}

-- the first k of the file's loops are read
pub record Read (f : List ℕ) (trailer : Trailer) (k : ℕ) (loops : List Loop) : Type 0 where
  pub within : k ≤ trailer.loops
  pub room : length loops ≡ 64
  pub at : (j : ℕ) → j < k → get_or loops j no_loop ≡ loop_at f trailer j

module _ (f : List ℕ) (trailer : Trailer) where
  pub read_start : (loops : List Loop) → length loops ≡ 64 → Read f trailer 0 loops
  read_start loops h = record { within = omega arith; room = h; at = λ j q. absurd (omega arith) }

  pub read_more : (k : ℕ) (loops : List Loop) (l : Loop) → Read f trailer k loops → k < trailer.loops → trailer.loops ≤ 64 → l ≡ loop_at f trailer k
      → Read f trailer (k + 1) (set loops k l)
  read_more k loops l w q m e =
      record {
        within = omega arith;
        room = length-set loops k l ∙ w.room;
        at = λ j r.
            elim (ℕ_discrete j k) [
              | yes p ↦ rw p (get_or-set_same loops k l no_loop (omega (arith, w.room)) ∙ e)
              | no n ↦ get_or-set_other loops k j l no_loop n ∙ w.at j (omega arith)
            ];
      }

  pub read_end : (k : ℕ) (loops : List Loop) → Read f trailer k loops → trailer.loops ≤ k → Handed f trailer loops
  read_end k loops w h = record { room = w.room; at = λ j q. w.at j (omega arith) }

  module _ (loops : List Loop) (w : Handed f trailer loops) where
    -- what is counted over the records is shown of the count over the case's loops, where limits are above 0
    pub handed_header : Shaped (case_of f trailer) → (j : ℕ) → j < trailer.loops
        → count_in loops (suc j) (get_or loops j no_loop).first ≡ shown (count_to (case_of f trailer) ((case_of f trailer).loop j).first (suc j))
    unfolding case_of
    handed_header s j q =
        rw (w.at j q)
        (counts_shown (case_of f trailer) (λ i h. (s.fits i h).2) s.limited loops (loop_at f trailer j).first (suc j) q (λ i h. w.at i (omega arith)))
