-- The recursion along the chain of loops around a node, outermost first: where k caps what is around loop j, `f j k` caps the visits of its header.
use Prim.Native.Nat.{ℕ, zero, suc, ◌+◌, ◌-◌, ◌≤◌, ◌<◌}
use native.Mathlib.Omega.{arith}
use native.Mathlib.Decide.{ℕ_discrete}
use mathlib.Core.Path.{◌≡◌, refl, ap, ◌∙◌}
use mathlib.Core.Bool.{Bool, true, false, cond}
use Rattle.paper.specs.Lists.{chain}

-- steps and tests that agree
pub chain_agree :
    (f g : ℕ → ℕ → ℕ) (test test' : ℕ → Bool) (n : ℕ) → ((j : ℕ) → j < n → (k : ℕ) → f j k ≡ g j k) → ((j : ℕ) → j < n → test j ≡ test' j)
    → chain f test n ≡ chain g test' n
unfolding chain
chain_agree f g test test' zero s h = refl
chain_agree f g test test' (suc n) s h =
    rw (h n (omega arith), chain_agree f g test test' n (λ j q. s j (omega arith)) (λ j q. h j (omega arith)), s n (omega arith) (chain g test' n)) refl

module _ (f : ℕ → ℕ → ℕ) where
  pub chain_taken : (test : ℕ → Bool) (n : ℕ) → test n ≡ true → chain f test (suc n) ≡ f n (chain f test n)
  unfolding chain
  chain_taken test n h = rw h refl

  chain_passed : (test : ℕ → Bool) (n : ℕ) → test n ≡ false → chain f test (suc n) ≡ chain f test n
  unfolding chain
  chain_passed test n h = rw h refl

  -- tests that agree
  pub chain_same : (test test' : ℕ → Bool) (n : ℕ) → ((j : ℕ) → j < n → test j ≡ test' j) → chain f test n ≡ chain f test' n
  chain_same test test' n h = chain_agree f f test test' n (λ j q k. refl) h

  -- no loop from n to n + d passes
  pub chain_end : (test : ℕ → Bool) (n d : ℕ) → ((j : ℕ) → n ≤ j → j < n + d → test j ≡ false) → chain f test (n + d) ≡ chain f test n
  chain_end test n zero h = ap (chain f test) (omega arith)
  chain_end test n (suc d) h =
      ap (chain f test) (omega arith)
      ∙ chain_passed test (n + d) (h (n + d) (omega arith) (omega arith))
      ∙ chain_end test n d (λ j a b. h j a (omega arith))

  -- j is the last below n that passes
  pub chain_last :
      (test : ℕ → Bool) (n j : ℕ) → j < n → test j ≡ true → ((i : ℕ) → j < i → i < n → test i ≡ false) → chain f test n ≡ f j (chain f test j)
  chain_last test n j h taken later =
      let all : n ≡ suc j + (n - suc j) = omega arith in
      ap (chain f test) all
      ∙ chain_end test (suc j) (n - suc j) (λ i a b. later i a (omega arith))
      ∙ chain_taken test j taken

  -- none passes
  pub chain_none : (test : ℕ → Bool) (n : ℕ) → ((j : ℕ) → j < n → test j ≡ false) → chain f test n ≡ 1
  unfolding chain
  chain_none test n h =
      let all : n ≡ 0 + n = omega arith in
      ap (chain f test) all ∙ chain_end test 0 n (λ j a b. h j (omega arith))

  -- what is at least 1, and at least what the last that passes makes
  pub chain_low :
      (b : ℕ) → 1 ≤ b → (test : ℕ → Bool) (n : ℕ)
      → ((j : ℕ) → j < n → test j ≡ true → ((i : ℕ) → j < i → i < n → test i ≡ false) → f j (chain f test j) ≤ b)
      → chain f test n ≤ b
  unfolding chain
  chain_low b one test zero h = one
  chain_low b one test (suc n) h = go (test n) refl (chain_low b one test n)
    where
      go :
          (t : Bool) → test n ≡ t
          → (((j : ℕ) → j < n → test j ≡ true → ((i : ℕ) → j < i → i < n → test i ≡ false) → f j (chain f test j) ≤ b) → chain f test n ≤ b)
          → cond (test n) (f n (chain f test n)) (chain f test n) ≤ b
      go true p ih = rw p (h n (omega arith) p (λ i a c. absurd (omega arith)))
      go false p ih =
          rw p (ih λ j l q later.
          h j (omega arith) q λ i a c. elim (ℕ_discrete i n) [ yes z ↦ ap test z ∙ p | no z ↦ later i a (omega arith) ])
