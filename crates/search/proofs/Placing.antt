-- Rows of eight numbers: one without blocks, whether a block stands among the slots, and a block put in its place.
use Prim.Native.Nat.{ℕ, zero, suc, ◌<◌}
use native.Mathlib.Omega.{arith}
use native.Mathlib.Decide.{ℕ_discrete, dec_lt}
use mathlib.Core.Path.{◌≡◌, ap}
use mathlib.Core.Logic.{◌≢◌, ◌⊎◌, inl, inr, ⊎_elim}
use mathlib.Core.List.{List}
use lib.ListN.{get_or}
use Rattle.paper.specs.Machines.{none}
use Rattle.paper.specs.Lists.{table}
use Rattle.paper.proofs.Says.{Says, says_no, says_eq, says_or, says_as}
use Rattle.paper.proofs.TableLaws.{get_d_table}
use Rattle.lines.specs.Lines.{eight}
use Rattle.theory.proofs.Enough.{plain_row}
use Rattle.theory.proofs.SameRow.{Same}
use Rattle.search.specs.Steps.{number_of, slot_of, row_by, plain_at, plain, among_to, among, placed, grown_at, grown}

pub entry : (g : ℕ → ℕ) (i : ℕ) → i < 8 → get_or (eight g) i 0 ≡ g i
unfolding eight table
entry g i h = get_d_table g 8 i 0 h

pub plain_number : (n : ℕ) → number_of (plain n) ≡ n
unfolding plain plain_at
plain_number n = entry (plain_at n) 0 (omega arith)

pub plain_same : (n : ℕ) → Same (plain_row n) (row_by (plain n))
unfolding plain plain_at
plain_same n = record { number = plain_number n; slot = λ k h. entry (plain_at n) (suc k) (omega arith) }

-- c stands in one of the slots
abbrev pub Among : List ℕ → ℕ → Type 0
Among r c = (k : ℕ) × (k < 7) × (slot_of r k ≡ c)

among_to_lem : (r : List ℕ) (c n : ℕ) → Says ((k : ℕ) × (k < n) × (slot_of r k ≡ c)) (among_to r c n)
unfolding among_to
among_to_lem r c zero = says_as (λ x. absurd x) (λ h. absurd (omega arith)) says_no
among_to_lem r c (suc n) =
    says_as (λ x. ⊎_elim (λ h. (h.0, omega arith, h.2)) (λ p. (n, omega arith, p)) x)
    (λ h. elim (ℕ_discrete h.0 n) [ yes p ↦ inr (rw p at h.2) | no q ↦ inl (h.0, omega arith, h.2) ])
    (says_or (among_to_lem r c n) (says_eq (slot_of r n) c))

pub among_says : (r : List ℕ) (c : ℕ) → Says (Among r c) (among r c)
unfolding among
among_says r c = among_to_lem r c 7

pub grown_is : (r : List ℕ) (c : ℕ) → number_of (grown r c) ≡ suc (number_of r)
unfolding grown grown_at
grown_is r c = entry (grown_at r c) 0 (omega arith)

pub grown_slot : (r : List ℕ) (c k : ℕ) → k < 7 → slot_of (grown r c) k ≡ placed (slot_of r) c k
unfolding grown grown_at
grown_slot r c k h = entry (grown_at r c) (suc k) (omega arith)

-- n rising blocks, of which c is none, and a free slot after them
pub record Placeable (old : ℕ → ℕ) (n c : ℕ) : Type 0 where
  pub rising : (k : ℕ) → suc k < n → old k < old (suc k)
  pub block : (k : ℕ) → k < n → old k < none
  pub free : old n ≡ none
  pub small : c < none
  pub new : (k : ℕ) → k < n → old k ≢ c

-- c put in its place among them
module _ (old : ℕ → ℕ) (n c : ℕ) (p : Placeable old n c) where
  abbrev slot : ℕ → ℕ
  slot k = placed old c k

  -- the next slot is greater: a block's, or free
  up : (k : ℕ) → k < n → old k < old (suc k)
  up k h =
      elim (ℕ_discrete (suc k) n) [
        | yes q ↦ omega (arith, p.block k h, p.free, ap old q)
        | no m ↦ p.rising k (omega arith)
      ]

  -- each slot has c or an old block
  pub placed_only : (k : ℕ) → k < suc n → (slot k ≡ c) ⊎ ((j : ℕ) × (j < n) × (old j ≡ slot k))
  unfolding placed
  placed_only zero h =
      elim (dec_lt (old 0) c) [
        | yes l ↦ inr (0, elim (ℕ_discrete 0 n) [ yes q ↦ absurd (omega (arith, p.free, p.small, ap old q)) | no q ↦ omega arith ], omega arith)
        | no m ↦ inl (omega arith)
      ]
  placed_only (suc k) h =
      let u = up k (omega arith) in
      elim (dec_lt (old (suc k)) c) [
        | yes l ↦ inr (suc k, elim (ℕ_discrete (suc k) n) [ yes q ↦ absurd (omega (arith, p.free, p.small, ap old q)) | no q ↦ omega arith ], omega arith)
        | no m ↦ elim (dec_lt (old k) c) [ yes l ↦ inl (omega arith) | no m' ↦ inr (k, omega arith, omega arith) ]
      ]

  pub placed_rising : (k : ℕ) → suc k < suc n → slot k < slot (suc k)
  unfolding placed
  placed_rising zero h = omega (arith, up 0 (omega arith), p.new 0 (omega arith))
  placed_rising (suc k) h = omega (arith, up k (omega arith), up (suc k) (omega arith), p.new (suc k) (omega arith))

  pub placed_free : (k : ℕ) → old k ≡ none → slot (suc k) ≡ none
  unfolding placed
  placed_free k q = omega (arith, p.small)
