-- An NMRU set that was empty with bits 0 goes by the bits alone: while a line is empty, the bits that are 1 are those of the filled lines.
use Prim.Native.Nat.{ℕ, ◌+◌, ◌^◌, ◌<◌, ◌≤◌}
use native.Mathlib.Decide.{ℕ_discrete}
use native.Mathlib.Omega.{arith}
use mathlib.Core.Path.{◌≡◌, refl, sym, ◌∙◌, ap}
use mathlib.Core.Logic.{◌≢◌}
use lib.ListN.{length, get_or, set}
use lib.Seq.{get_or-set_same, get_or-set_other}
use Rattle.paper.specs.declared.SetState.{SetState}
use Rattle.paper.specs.Machines.{none, empty_set, empty, bit_at, victim, marked, miss_line, nmru_line, nmru_step}
use Rattle.paper.proofs.Says.{says_true}
use Rattle.paper.proofs.Bits.{bit_none, same, flipped, victim_is, marked_own, marked_rest}
use Rattle.paper.proofs.LineLaws.{nmru_low}
use Rattle.paper.proofs.States.{says_empty, fills, clears, miss_lowest}

pub record Filling (k : ℕ) (s : SetState) : Type 0 where
  pub clear : (i : ℕ) → i < k → get_or s.lines i none ≡ none → bit_at s.bits i ≡ 0
  pub filled : (i j : ℕ) → i < k → get_or s.lines i none ≡ none → get_or s.lines j none ≢ none → bit_at s.bits j ≡ 1

-- "all sets start empty with bits 0"
pub filling_empty : (k : ℕ) → Filling k empty_set
unfolding empty
filling_empty k =
    let blank = says_true (says_empty empty_set.lines) refl in
    record { clear = λ i h e. bit_none i; filled = λ i j h e n. absurd (n (blank j)) }

-- the lowest empty line is then the lowest line whose bit is 0
pub filling_line : (k : ℕ) (s : SetState) → k ≤ length s.lines → Filling k s → miss_line k s ≡ victim k s.bits
filling_line k s h f =
    elim (miss_lowest k s h) [
      | fills l e full ↦ sym (victim_is k s.bits _ l (f.clear _ l e) (λ i g. f.filled _ i l e (full i g)))
      | clears full e ↦ e
    ]

-- A step keeps it: while a line stays empty its bit is 0, so the bits do not flip, and the accessed line is filled and has the bit 1.
module _ (k : ℕ) (s : SetState) (b : ℕ) (n : b ≢ none) (fits : k ≤ length s.lines) (few : s.bits + 1 < 2 ^ k) (f : Filling k s) where
  low : nmru_line k s b < k
  low = nmru_low k s b few

  there : (i : ℕ) → i ≢ nmru_line k s b → get_or (set s.lines (nmru_line k s b) b) i none ≡ get_or s.lines i none
  there i d = get_or-set_other s.lines (nmru_line k s b) i b none d

  other : (i : ℕ) → get_or (set s.lines (nmru_line k s b) b) i none ≡ none → i ≢ nmru_line k s b
  other i e p = n (sym (get_or-set_same s.lines (nmru_line k s b) b none (omega (arith, low))) ∙ ap (λ (j : ℕ). get_or (set s.lines (nmru_line k s b) b) j none) (sym p) ∙ e)

  -- line i is empty after the step, and so it was before
  was_clear : (i : ℕ) → i < k → get_or (set s.lines (nmru_line k s b) b) i none ≡ none → (get_or s.lines i none ≡ none) × (bit_at s.bits i ≡ 0)
  was_clear i h e = let p = sym (there i (other i e)) ∙ e in (p, f.clear i h p)

  still : (i : ℕ) → i < k → get_or (set s.lines (nmru_line k s b) b) i none ≡ none → (j : ℕ) → j ≢ nmru_line k s b → bit_at (marked k s.bits (nmru_line k s b)) j ≡ bit_at s.bits j
  still i h e j d =
      elim (marked_rest k s.bits (nmru_line k s b) low (omega arith)) [
        | same m l p z rest ↦ rest j d
        | flipped ones off ↦ absurd (omega (arith, ones i h (other i e), (was_clear i h e).1))
      ]

  pub filling_kept : Filling k (nmru_step k s b).state
  unfolding nmru_step
  filling_kept =
      record {
        clear = λ i h e. still i h e i (other i e) ∙ (was_clear i h e).1;
        filled = λ i j h e m.
            elim (ℕ_discrete j (nmru_line k s b)) [
              | yes p ↦ rw p (marked_own k s.bits (nmru_line k s b) low (omega arith))
              | no d ↦ still i h e j d ∙ f.filled i j h (was_clear i h e).0 (λ z. m (there j d ∙ z))
            ];
      }
