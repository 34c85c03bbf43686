-- The laws of the least limit that covers a node: a fact of limit at most l covers the node exactly when it is at most l.
use Prim.Native.Nat.{ℕ, zero, suc, ◌+◌, ◌≤◌, ◌<◌, min}
use native.Mathlib.Omega.{arith}
use native.Mathlib.Decide.{dec_le}
use native.Mathlib.Numerals.{add-one}
use mathlib.Core.Path.{◌≡◌, refl, sym, ◌∙◌, ap₂}
use mathlib.Core.Logic.{inl, inr, ⊎_elim}
use mathlib.Core.Bool.{Bool, true, false, cond, ◌&&◌, ◌||◌}
use mathlib.Core.List.{List}
use borrow.Author.Count.{below_more}
use borrow.Author.Tests.{lt-leb}
use lib.Dec.{leb}
use lib.ListN.{replicate, get_or-replicate, length-replicate}
use Rattle.paper.specs.Lists.{some, lowest_to}
use Rattle.paper.specs.Cases.{Fact, Case}
use Rattle.paper.specs.Bounds.{covers}
use Rattle.paper.proofs.Least.{None, Found, look, some_none, some_is}
use Rattle.paper.proofs.Says.{says_le, says_or, says_same}
use Rattle.charge.specs.Chained.{lowest_limit, Limits, Lowered, Covered}
use Rattle.charge.specs.Sizes as Sizes

some_more : (p : ℕ → Bool) (n : ℕ) → some p (suc n) ≡ (some p n || p n)
some_more p n =
    ⊎_elim
    (λ (h : None p n). go h (p n) refl)
    (λ (w : Found p n).
    rw (some_is p n w) (some_is p (suc n) (record { at = w.at; below = omega (arith, w.below); none = w.none; holds = w.holds })))
    (look p n)
  where
    go : None p n → (b : Bool) → p n ≡ b → some p (suc n) ≡ (some p n || p n)
    go h true q = rw (some_none p n h, q) (some_is p (suc n) (record { at = n; below = omega arith; none = h; holds = q }))
    go h false q =
        rw (some_none p n h, q) (some_none p (suc n) (λ k l. below_more (λ j. p j ≡ false) n h q k (omega arith)))

leb_min : (a b l : ℕ) → leb (min a b) l ≡ (leb a l || leb b l)
leb_min a b l =
    says_same
    (λ (h : min a b ≤ l). elim (dec_le a l) [ yes k ↦ inl k | no k ↦ inr (omega arith) ])
    (⊎_elim (λ (h : a ≤ l). omega arith) (λ (h : b ≤ l). omega arith))
    (says_le _ _) (says_or (says_le a l) (says_le b l))

module _ (e : Case) where
  -- at most the limit of a node that no fact covers, and at least 1 where the facts' limits are
  pub lowest_high : (n v : ℕ) → lowest_limit e n v ≤ Sizes.no_limit
  unfolding lowest_limit lowest_to
  lowest_high zero v = omega arith
  lowest_high (suc n) v = omega (arith, lowest_high n v)

  pub lowest_low : (n v : ℕ) → ((i : ℕ) → i < n → 1 ≤ (e.fact i).limit) → 1 ≤ lowest_limit e n v
  unfolding lowest_limit lowest_to
  lowest_low zero v h = omega arith
  lowest_low (suc n) v h = omega (arith, lowest_low n v (λ i l. h i (omega arith)), one (covers e (e.fact n) v) (e.fact n).limit (h n (omega arith)))
    where
      one : (b : Bool) (x : ℕ) → 1 ≤ x → 1 ≤ cond b x Sizes.no_limit
      one true x h = h
      one false x h = omega arith

  -- no fact is added, and one more
  pub covered_start : e.nodes ≤ Sizes.nodes → Covered e 0 (replicate Sizes.nodes Sizes.no_limit)
  unfolding lowest_limit lowest_to
  covered_start h =
      record {
        room = omega (arith, length-replicate {A = ℕ} Sizes.nodes Sizes.no_limit);
        lowest = λ v k. get_or-replicate Sizes.nodes v Sizes.no_limit 0 (omega arith);
      }

  pub covered_more : (n : ℕ) (cover new : List ℕ) → Covered e n cover → Lowered e (covers e (e.fact n)) (e.fact n).limit cover new → Covered e (n + 1) new
  unfolding lowest_limit lowest_to
  covered_more n cover new w low =
      record { room = omega (arith, w.room, low.room); lowest = λ v h. rw add-one (low.is v h ∙ rw (w.lowest v h) refl) }

  pub covered_limits : (n : ℕ) (cover : List ℕ) → Covered e n cover → Limits e cover
  covered_limits n cover w = record { room = w.room; low = λ v h. rw (w.lowest v h) (lowest_high n v) }

module _ (e : Case) (test : Fact → Bool) (v l : ℕ) (small : l < Sizes.no_limit) where
  -- a fact that covers the node counts with its limit, any other as if it had none
  part : (c : Bool) (x : ℕ) (t : Bool) → t ≡ leb x l → (t && c) ≡ leb (cond c x Sizes.no_limit) l
  part true x true q = q
  part true x false q = q
  part false x true q = sym (lt-leb Sizes.no_limit l (omega arith))
  part false x false q = sym (lt-leb Sizes.no_limit l (omega arith))

  pub covered_is :
      (n : ℕ) → ((i : ℕ) → i < n → test (e.fact i) ≡ leb (e.fact i).limit l)
      → some (λ i. test (e.fact i) && covers e (e.fact i) v) n ≡ leb (lowest_limit e n v) l
  unfolding lowest_limit lowest_to
  covered_is zero h = some_none _ zero (λ k q. absurd (omega arith)) ∙ sym (lt-leb Sizes.no_limit l (omega arith))
  covered_is (suc n) h =
      some_more (λ i. test (e.fact i) && covers e (e.fact i) v) n
      ∙ ap₂ (λ (x y : Bool). x || y) (covered_is n (λ i q. h i (omega arith)))
      (part (covers e (e.fact n) v) (e.fact n).limit (test (e.fact n)) (h n (omega arith)))
      ∙ sym (leb_min (lowest_limit e n v) (cond (covers e (e.fact n) v) (e.fact n).limit Sizes.no_limit) l)
