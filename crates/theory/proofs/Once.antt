-- By rule 13 the facts of an accepted case follow each other: their blocks do not fall, and the scopes of one block are apart. So a node is covered by one fact at most.
use Prim.Native.Nat.{ℕ, zero, suc, ◌≤◌, ◌<◌}
use native.Mathlib.Omega.{arith}
use native.Mathlib.Decide.{ℕ_discrete, dec_lt}
use mathlib.Core.Path.{◌≡◌, sym}
use mathlib.Core.Logic.{inl, inr, dite}
use Rattle.paper.specs.Cases.{Case, scope_of}
use Rattle.paper.specs.Facts.{previous_of}
use Rattle.paper.proofs.Says.{says_false}
use Rattle.paper.proofs.Meaning.{In, Sound, Ordered}
use Rattle.paper.proofs.FileLaws.{order_says}

module _ (e : Case) (s : Sound e) (ordered : Ordered e) where
  abbrev After : ℕ → ℕ → Type 0
  After i j = ((e.fact i).block ≤ (e.fact j).block) × ((e.fact i).block ≡ (e.fact j).block → (scope_of e (e.fact i)).last < (scope_of e (e.fact j)).first)

  next_after : (i : ℕ) → suc i < e.facts → After i (suc i)
  next_after i h =
      let n = (says_false (order_says e (previous_of e (e.fact i)) (e.fact (suc i)))).0 (ordered (suc i) h) in
      (falls (λ p. n (inl p)), λ q. apart (λ p. n (inr (sym q, p))))
    where
      falls : ¬ ((e.fact (suc i)).block < (e.fact i).block) → (e.fact i).block ≤ (e.fact (suc i)).block
      falls n = omega arith

      apart : ¬ ((scope_of e (e.fact (suc i))).first ≤ (scope_of e (e.fact i)).last) → (scope_of e (e.fact i)).last < (scope_of e (e.fact (suc i))).first
      apart n = omega arith

  -- a scope has a node, by rule 14
  scope_fits : (i : ℕ) → i < e.facts → (scope_of e (e.fact i)).first ≤ (scope_of e (e.fact i)).last
  scope_fits i h = omega (arith, (s.facts i h).fetched.1)

  all_after : (i j : ℕ) → i < j → j < e.facts → After i j
  all_after i zero l h = absurd (omega arith)
  all_after i (suc j) l h = go (ℕ_discrete i j) (λ m. all_after i j m (omega arith)) (next_after j h) (scope_fits j (omega arith))
    where
      go : Dec (i ≡ j) → (i < j → After i j) → After j (suc j) → (scope_of e (e.fact j)).first ≤ (scope_of e (e.fact j)).last → After i (suc j)
      go (yes p) f n z = rw p n
      go (no q) f n z =
          let b = f (omega arith) in
          (omega arith, λ w. omega (arith, b.1 (omega arith), n.1 (omega arith)))

  pub once : (i j v : ℕ) → i < e.facts → j < e.facts →
      In (scope_of e (e.fact i)) v → In (scope_of e (e.fact j)) v → (e.fact i).block ≡ (e.fact j).block → i ≡ j
  once i j v h k a b p =
      elim (ℕ_discrete i j) [
        | yes q ↦ q
        | no n ↦
            absurd
            (dite (dec_lt i j) (λ l. omega (arith, (all_after i j l k).1 p)) (λ l. omega (arith, (all_after j i (omega arith) h).1 (sym p))))
      ]
