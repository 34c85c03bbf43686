-- The laws of `least` and `some`, and of a loop that looks for the least place.
use Prim.Native.Nat.{ℕ, zero, suc, ◌+◌, ◌≤◌, ◌<◌}
use native.Mathlib.Omega.{arith}
use mathlib.Core.Path.{◌≡◌, refl, sym, ◌∙◌, ap}
use mathlib.Core.Bool.{Bool, true, false, true≢false, false≢true}
use mathlib.Core.Logic.{◌⊎◌, inl, inr, ⊎_elim}
use borrow.Author.Count.{below_more, below_none}
use borrow.Author.Tests.{lt-ltb, le-ltb}
use Rattle.paper.specs.Lists.{least_from, least, some}

-- a loop that looks for the least index is at i
pub record Passed (p : ℕ → Bool) (n i : ℕ) : Type 0 where
  pub within : i ≤ n
  pub none : (k : ℕ) → k < i → p k ≡ false

module _ (p : ℕ → Bool) where
  pub passed_start : (n : ℕ) → Passed p n 0
  passed_start n = record { within = omega arith; none = below_none _ }

  from_none : (k i : ℕ) → ((j : ℕ) → j < i + k → p j ≡ false) → least_from p i k ≡ i + k
  unfolding least_from
  from_none zero i h = omega arith
  from_none (suc k) i h =
      let e : p i ≡ false = h i (omega arith) in
      rw e (from_none k (suc i) (λ j q. h j (omega arith)) ∙ omega arith)

  from_found : (k i d : ℕ) → ((j : ℕ) → j < i + d → p j ≡ false) → d < k → p (i + d) ≡ true → least_from p i k ≡ i + d
  unfolding least_from
  from_found zero i d h q t = absurd (omega arith)
  from_found (suc k) i zero h q t =
      let z : i + 0 ≡ i = omega arith in
      let e : p i ≡ true = rw z at t in
      rw e (sym z)
  from_found (suc k) i (suc d) h q t =
      let e : p i ≡ false = h i (omega arith) in
      let z : i + suc d ≡ suc i + d = omega arith in
      rw (e, z) (from_found k (suc i) d (λ j w. h j (omega arith)) (omega arith) (rw z at t))

  module _ (n i : ℕ) (b : Bool) where
    pub passed_more : Passed p n i → i < n → b ≡ p i → b ≡ false → Passed p n (i + 1)
    passed_more w h e t = record { within = omega arith; none = below_more _ _ w.none (sym e ∙ t) }

    pub least_found : Passed p n i → i < n → b ≡ p i → b ≡ true → i ≡ least p n
    unfolding least
    least_found w h e t =
        let z : 0 + i ≡ i = omega arith in
        sym (from_found n 0 i (λ j q. w.none j (omega arith)) h (rw z (sym e ∙ t)) ∙ z)

  pub least_end : (n i : ℕ) → Passed p n i → n ≤ i → i ≡ least p n
  unfolding least
  least_end n i w h =
      let z : i ≡ n = omega arith in
      rw z (sym (from_none n 0 (λ j q. w.none j (omega arith)) ∙ omega arith))

-- what `some` and `least` say, for those who use a verdict
abbrev pub None : (ℕ → Bool) → ℕ → Type 0
None p n = (k : ℕ) → k < n → p k ≡ false

-- p holds at `at`, below n, and nowhere before it
pub record Found (p : ℕ → Bool) (n : ℕ) : Type 0 where
  pub at : ℕ
  pub below : at < n
  pub none : None p at
  pub holds : p at ≡ true

module _ (p : ℕ → Bool) where
  look_at : (n : ℕ) → None p n → (b : Bool) → p n ≡ b → None p (suc n) ⊎ Found p (suc n)
  look_at n h true e = inr (record { at = n; below = omega arith; none = h; holds = e })
  look_at n h false e = inl (λ k q. below_more (λ j. p j ≡ false) n h e k (omega arith))

  look_more : (n : ℕ) → None p n ⊎ Found p n → None p (suc n) ⊎ Found p (suc n)
  look_more n (inl h) = look_at n h (p n) refl
  look_more n (inr w) = inr (record { at = w.at; below = omega (arith, w.below); none = w.none; holds = w.holds })

  pub look : (n : ℕ) → None p n ⊎ Found p n
  look zero = inl (λ k q. absurd (omega arith))
  look (suc n) = look_more n (look n)

  pub least_none : (n : ℕ) → None p n → least p n ≡ n
  least_none n h = sym (least_end p n n (record { within = omega arith; none = h }) (omega arith))

  pub least_is : (n : ℕ) (w : Found p n) → least p n ≡ w.at
  least_is n w =
      sym (least_found p n w.at true (record { within = omega (arith, w.below); none = w.none }) w.below (sym w.holds) refl)

  pub least_before : (n i : ℕ) → i < least p n → p i ≡ false
  least_before n i l =
      ⊎_elim (λ h. h i (omega (arith, least_none n h))) (λ w. w.none i (omega (arith, least_is n w))) (look n)

  pub least_at : (n : ℕ) → least p n < n → p (least p n) ≡ true
  least_at n l =
      ⊎_elim (λ h. absurd (omega (arith, least_none n h))) (λ w. ap p (least_is n w) ∙ w.holds) (look n)

  pub some_none : (n : ℕ) → None p n → some p n ≡ false
  unfolding some
  some_none n h = rw (least_none n h) (le-ltb n n (omega arith))

  pub some_is : (n : ℕ) → Found p n → some p n ≡ true
  unfolding some
  some_is n w = rw (least_is n w) (lt-ltb w.at n w.below)

  pub none_some : (n : ℕ) → some p n ≡ false → None p n
  none_some n e =
      ⊎_elim (λ h. h) (λ w. absurd (false≢true (sym e ∙ some_is n w))) (look n)

  pub is_some : (n : ℕ) → some p n ≡ true → Found p n
  is_some n e =
      ⊎_elim (λ h. absurd (true≢false (sym e ∙ some_none n h))) (λ w. w) (look n)

-- a loop that asks whether p holds somewhere below n is at i
module _ (p : ℕ → Bool) (n i : ℕ) (w : Passed p n i) where
  pub some_found : (b : Bool) → i < n → b ≡ p i → b ≡ true → true ≡ some p n
  some_found b h e t = sym (some_is p n (record { at = i; below = h; none = w.none; holds = sym e ∙ t }))

  pub some_end : n ≤ i → false ≡ some p n
  some_end h = sym (some_none p n (λ k q. w.none k (omega (arith, w.within))))

-- tests that agree below n
module _ (p q : ℕ → Bool) (n : ℕ) (same : (k : ℕ) → k < n → p k ≡ q k) where
  pub least_same : least p n ≡ least q n
  least_same =
      ⊎_elim
      (λ h. least_none p n h ∙ sym (least_none q n (λ k l. sym (same k l) ∙ h k l)))
      (λ w. least_is p n w
      ∙ sym
      (least_is q n
      (record {
        at = w.at;
        below = w.below;
        none = λ k l. sym (same k (omega (arith, w.below))) ∙ w.none k l;
        holds = sym (same w.at w.below) ∙ w.holds;
      })))
      (look p n)

  pub some_same : some p n ≡ some q n
  unfolding some
  some_same = rw least_same refl
