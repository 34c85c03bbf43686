-- The laws of the last number below n that passes a test.
use Prim.Native.Nat.{ℕ, zero, suc, ◌+◌, ◌≤◌, ◌<◌}
use native.Mathlib.Omega.{arith}
use native.Mathlib.Decide.{ℕ_discrete}
use native.Mathlib.Numerals.{add-one}
use mathlib.Core.Path.{◌≡◌, refl, sym, ◌∙◌, ap}
use mathlib.Core.Bool.{Bool, true, false, cond}
use Rattle.charge.specs.NextOut.{last_of}

module _ (p : ℕ → Bool) where
  pub last_low : (n : ℕ) → last_of p n ≤ n
  unfolding last_of
  last_low zero = omega arith
  last_low (suc n) = go (p n) (last_low n)
    where
      go : (b : Bool) → last_of p n ≤ n → cond b (suc n) (last_of p n) ≤ suc n
      go true h = omega arith
      go false h = omega arith

  -- it passes
  pub last_is : (n v : ℕ) → last_of p n ≡ suc v → p v ≡ true
  unfolding last_of
  last_is zero v q = absurd (omega arith)
  last_is (suc n) v q = go (p n) refl q (last_is n v)
    where
      go : (b : Bool) → p n ≡ b → cond b (suc n) (last_of p n) ≡ suc v → (last_of p n ≡ suc v → p v ≡ true) → p v ≡ true
      go true h q ih = let z : v ≡ n = omega arith in ap p z ∙ h
      go false h q ih = ih q

  -- and none after it
  pub last_none : (n u : ℕ) → last_of p n ≤ u → u < n → p u ≡ false
  unfolding last_of
  last_none zero u l k = absurd (omega arith)
  last_none (suc n) u l k = go (p n) refl l (last_none n u)
    where
      go : (b : Bool) → p n ≡ b → cond b (suc n) (last_of p n) ≤ u → (last_of p n ≤ u → u < n → p u ≡ false) → p u ≡ false
      go true h l ih = absurd (omega arith)
      go false h l ih = elim (ℕ_discrete u n) [ yes z ↦ ap p z ∙ h | no z ↦ ih l (omega arith) ]

  pub last_more : (n : ℕ) → last_of p (n + 1) ≡ cond (p n) (n + 1) (last_of p n)
  unfolding last_of
  last_more n = rw add-one refl

  -- none passes
  pub last_absent : (n : ℕ) → ((u : ℕ) → u < n → p u ≡ false) → last_of p n ≡ 0
  unfolding last_of
  last_absent zero h = refl
  last_absent (suc n) h = rw (h n (omega arith)) (last_absent n (λ u l. h u (omega arith)))

  -- v passes, and none after it
  pub last_found : (n v : ℕ) → v < n → p v ≡ true → ((u : ℕ) → v < u → u < n → p u ≡ false) → last_of p n ≡ suc v
  unfolding last_of
  last_found zero v l trailer h = absurd (omega arith)
  last_found (suc n) v l trailer h =
      elim (ℕ_discrete v n) [
        | yes z ↦ let q : p n ≡ true = sym (ap p z) ∙ trailer in rw q (omega arith)
        | no z ↦ rw (h n (omega arith) (omega arith)) (last_found n v (omega arith) trailer (λ u a b. h u a (omega arith)))
      ]
