-- NMRU's access: the line that a miss takes, and what is left of the bits.
use Prim.Native.Nat.{ℕ, ◌-◌, ◌^◌, ◌≤◌, ◌<◌}
use mathlib.Core.Path.{◌≡◌, sym, ◌∙◌, ap}
use mathlib.Core.Logic.{◌≢◌}
use native.Mathlib.Omega.{arith}
use lib.ListN.{get_or}
use Rattle.paper.specs.declared.SetState.{SetState}
use Rattle.paper.specs.Machines.{none, bit_at, marked}
use Rattle.paper.proofs.Bits.{Rest, victim_ones, victim_low, victim_zero, marked_own, marked_rest, marked_few}
use Rattle.theory.proofs.Count.{cnt}
use Rattle.theory.proofs.Ideal.{freed, spot, nmru, LegalWays}
use Rattle.theory.proofs.Ways.{at_either, hit, new, Marks, goes, place_low, PLACED}
use Rattle.theory.proofs.Law.{Machine}

abbrev pub NMRU : ℕ → Machine
NMRU k = PLACED k (2 ^ k - 1) (freed k) (marked k)

pub nmru_marks : (k : ℕ) → 2 ≤ k → Marks k (2 ^ k - 1) (freed k) (marked k)
unfolding freed
nmru_marks k h =
    record {
      low = λ s v.
          at_either (λ j. j < k) _ _ _ (λ c i l p. omega (arith, v.lines_k)) (λ full. victim_low k s.bits v.few);
      few = λ bits j f l. marked_few k bits j l (omega arith) h;
    }

-- The line j that a miss takes: an empty one, and only where none is empty "the lowest line whose bit is 0".
data Frees (s : SetState) (j : ℕ) : Type 0 where
  fill : 1 ≤ cnt none s.lines → get_or s.lines j none ≡ none → Frees s j
  clear : cnt none s.lines ≡ 0 → bit_at s.bits j ≡ 0 → ((i : ℕ) → i < j → bit_at s.bits i ≡ 1) → Frees s j

module _ {k : ℕ} (h : 2 ≤ k) (x : ℕ) (s : SetState) (v : LegalWays k (2 ^ k - 1) s) where
  frees : Frees s (freed k s)
  unfolding freed
  frees =
      at_either (Frees s) _ _ _ (λ c i l p. fill c p) (λ full. clear full (victim_zero k s.bits v.few) (victim_ones k s.bits))

  -- the bits after the access
  pub own : bit_at (nmru k x s).bits (spot k x s) ≡ 1
  own = marked_own k s.bits (spot k x s) (place_low (nmru_marks k h) x s v) (omega (arith, v.few))

  pub rest : Rest k s.bits (spot k x s) (nmru k x s).bits
  rest = marked_rest k s.bits (spot k x s) (place_low (nmru_marks k h) x s v) (omega (arith, v.few))

  -- x takes another block's line only where no line is empty and the bit is 0
  pub taken :
      (b i : ℕ) → b ≢ none → x ≢ b → get_or s.lines i none ≡ b → i ≡ spot k x s
      → (cnt none s.lines ≡ 0) × (bit_at s.bits i ≡ 0) × ((j : ℕ) → j < i → bit_at s.bits j ≡ 1)
  taken b i n u a e =
      elim (goes (nmru_marks k h) x s v) [
        | hit c p ↦ absurd (u (sym p ∙ ap (λ (j : ℕ). get_or s.lines j none) (sym e) ∙ a))
        | new c p ↦
            let q : i ≡ freed k s = e ∙ p in
            elim frees [
              | fill o f ↦ absurd (n (sym a ∙ ap (λ (j : ℕ). get_or s.lines j none) q ∙ f))
              | clear o z g ↦ (o, ap (bit_at s.bits) q ∙ z, λ j l. g j (omega arith))
            ]
      ]

  -- where x stands in no line and none is empty, x goes by the bits
  pub by_bits : cnt x s.lines ≡ 0 → cnt none s.lines ≡ 0 → bit_at s.bits (spot k x s) ≡ 0
  by_bits z full =
      elim (goes (nmru_marks k h) x s v) [
        | hit c p ↦ absurd (omega arith)
        | new c p ↦ elim frees [ fill o f ↦ absurd (omega arith) | clear o b g ↦ ap (bit_at s.bits) p ∙ b ]
      ]
