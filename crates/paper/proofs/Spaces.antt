-- What is said n times, at places that are d apart; and so the part of a list.
use Prim.Native.Nat.{ℕ, zero, suc, ◌+◌, ◌*◌, ◌<◌}
use native.Mathlib.Omega.{arith}
use native.Mathlib.Nat.{mul-suc, mul-zero}
use mathlib.Core.Path.{◌≡◌, refl, sym, ◌∙◌, ap}
use mathlib.Core.List.{List, ◌∷◌, ◌++◌}
use lib.ListN.{length, get_or}
use lib.Seq.{ext_get_or}
use Rattle.paper.specs.Lists.{spaced, part}
use Rattle.paper.proofs.Parts.{Stands}
use Rattle.paper.proofs.Widths.{Below, below_nil, below_cons, below_at}

module _ (g : ℕ → ℕ) (d : ℕ) where
  pub length_spaced : (p n : ℕ) → length (spaced g d p n) ≡ n
  unfolding spaced
  length_spaced p zero = refl
  length_spaced p (suc n) = ap suc (length_spaced (p + d) n)

  pub get_d_spaced : (p n i : ℕ) → i < n → get_or (spaced g d p n) i 0 ≡ g (p + d * i)
  unfolding spaced
  get_d_spaced p zero i h = absurd (omega arith)
  get_d_spaced p (suc n) zero h = ap g (omega (arith, mul-zero d))
  get_d_spaced p (suc n) (suc i) h = get_d_spaced (p + d) n i (omega arith) ∙ ap g (omega (arith, mul-suc d i))

  pub spaced_append : (p m n : ℕ) → spaced g d p (m + n) ≡ spaced g d p m ++ spaced g d (p + d * m) n
  unfolding spaced
  spaced_append p zero n =
      let a : 0 + n ≡ n = omega arith in
      let b : p + d * 0 ≡ p = omega (arith, mul-zero d) in
      rw (a, b) refl
  spaced_append p (suc m) n =
      let a : suc m + n ≡ suc (m + n) = omega arith in
      let b : p + d * suc m ≡ p + d + d * m = omega (arith, mul-suc d m) in
      rw (a, b) (ap {B = List ℕ} (λ l. g p ∷ l) (spaced_append (p + d) m n))

module _ (l : List ℕ) (p : ℕ) where
  -- a part stands where it was read
  pub part_stands : (n : ℕ) → Stands l p (part l p n)
  part_stands n =
      record {
        at = λ i h.
            ap (λ (k : ℕ). get_or l k 0) (omega arith) ∙ sym (get_d_spaced (λ q. get_or l q 0) 1 p n i (omega (arith, length_spaced (λ q. get_or l q 0) 1 p n)));
      }

  -- and what stands there is the part that is read
  pub part_read : (s : List ℕ) (n : ℕ) → length s ≡ n → Stands l p s → part l p n ≡ s
  part_read s n e h =
      let m = length_spaced (λ q. get_or l q 0) 1 p n in
      ext_get_or 0 _ _ (m ∙ sym e)
      (λ i k. get_d_spaced (λ q. get_or l q 0) 1 p n i (omega (arith, m)) ∙ ap (λ (q : ℕ). get_or l q 0) (omega arith) ∙ h.at i (omega (arith, m, e)))

pub part_below : (m : ℕ) (l : List ℕ) → 0 < m → Below m l → (p n : ℕ) → Below m (part l p n)
unfolding spaced
part_below m l z b p zero = below_nil m
part_below m l z b p (suc n) = below_cons m _ _ (below_at m l z b p) (part_below m l z b (p + 1) n)
