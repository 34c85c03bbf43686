-- The laws of a count as 32 bits show it: it is shown of the count itself, since of what is too large only that it is plays a part.
use Prim.Native.Nat.{ℕ, zero, suc, ◌+◌, ◌*◌, ◌≤◌, ◌<◌, min}
use native.Mathlib.Omega.{arith}
use native.Mathlib.Nat.{suc-mul}
use native.Mathlib.Numerals.{add-one}
use native.Mathlib.Decide.{dec_le}
use mathlib.Core.Path.{◌≡◌, refl, sym, ◌∙◌, ap}
use mathlib.Core.Bool.{Bool, true, false, cond}
use mathlib.Core.List.{List}
use borrow.Author.Tests.{lt-ltb, le-ltb, ne_eqb}
use lib.Dec.{eqb, lit≤}
use lib.ListN.{length, get_or, take}
use lib.Seq.{get_or-take, length-take-le}
use Rattle.paper.specs.declared.Loop.{Loop}
use Rattle.paper.specs.Lists.{chain}
use Rattle.paper.specs.Cases.{Case, unlimited, inside}
use Rattle.paper.specs.Graphs.{at_most, header_visits}
use Rattle.paper.proofs.Chain.{chain_agree}
use Rattle.paper.proofs.Nests.{visits_pos}
use Rattle.loops.specs.Counts.{no_loop, count_to, shown, taken, stepped, count_in}

pub shown_small : (p : ℕ) → p ≤ 4294967295 → shown p ≡ p
unfolding shown
shown_small p h = rw (le-ltb _ _ h) refl

pub shown_large : (p : ℕ) → 4294967295 < p → shown p ≡ 0
unfolding shown
shown_large p h = rw (lt-ltb _ _ h) refl

-- a number above 32 bits as 2 to the 32
abbrev full : ℕ → ℕ
full n = min n 4294967296

taken_shown : (n : ℕ) → 1 ≤ n → taken (shown n) ≡ full n
unfolding taken
taken_shown n low =
    elim (dec_le n 4294967295) [
      | yes h ↦ rw (shown_small n h, ne_eqb n 0 (λ z. omega arith)) (omega arith)
      | no h ↦ rw (shown_large n (omega arith)) (omega arith)
    ]

full_times : (B n : ℕ) → full (B * full n) ≡ full (B * n)
full_times zero n = omega arith
full_times (suc B) n =
    elim (dec_le n 4294967296) [
      | yes l ↦ let z : full n ≡ n = omega arith in rw z refl
      | no l ↦ let z : full n ≡ 4294967296 = omega arith in rw z (omega (arith, suc-mul B n))
    ]

at_most_full : (W x y : ℕ) → full x ≡ full y → full (at_most W x) ≡ full (at_most W y)
unfolding at_most
at_most_full W x y h = go (eqb W unlimited)
  where
    go : (b : Bool) → full (cond b x (min W x)) ≡ full (cond b y (min W y))
    go true = h
    go false = omega arith

shown_full : (x y : ℕ) → full x ≡ full y → shown x ≡ shown y
shown_full x y h =
    elim (dec_le x 4294967295) [
      | yes l ↦ let e : x ≡ y = omega arith in ap shown e
      | no l ↦ shown_large x (omega arith) ∙ sym (shown_large y (omega arith))
    ]

-- one loop further in: with a W what was too large may be small again
pub stepped_shown : (l : Loop) (n : ℕ) → 1 ≤ n → stepped l (shown n) ≡ shown (at_most l.visits (l.bound * n))
unfolding stepped
stepped_shown l n low =
    rw (taken_shown n low) (shown_full _ _ (at_most_full l.visits _ _ (full_times l.bound n)))

-- what is counted over records is shown of the count over the loops that they are
module _ (e : Case) (bounds : (j : ℕ) → j < e.loops → 1 ≤ (e.loop j).bound) (limits : (j : ℕ) → j < e.loops → 1 ≤ (e.loop j).visits) where
  steps_shown : (v n : ℕ) → n ≤ e.loops → chain (λ j. stepped (e.loop j)) (λ j. inside (e.loop j) v) n ≡ shown (count_to e v n)
  unfolding chain count_to header_visits
  steps_shown v zero h = sym (shown_small 1 (lit≤ tt))
  steps_shown v (suc n) h =
      rw (steps_shown v n (omega arith))
      (go (inside (e.loop n) v) (count_to e v n) (visits_pos e bounds limits (λ j. inside (e.loop j) v) n (omega arith)))
    where
      go : (b : Bool) (k : ℕ) → 1 ≤ k → cond b (stepped (e.loop n) (shown k)) (shown k) ≡ shown (cond b (header_visits e n k) k)
      go true k low = stepped_shown (e.loop n) k low
      go false k low = refl

  pub counts_shown : (loops : List Loop) (v n : ℕ) → n ≤ e.loops → ((j : ℕ) → j < n → get_or loops j no_loop ≡ e.loop j) → count_in loops n v ≡ shown (count_to e v n)
  unfolding count_in
  counts_shown loops v n h same =
      chain_agree _ _ _ _ n (λ j q k. ap (λ (l : Loop). stepped l k) (same j q)) (λ j q. ap (λ (l : Loop). inside l v) (same j q))
      ∙ steps_shown v n h

pub count_none : (loops : List Loop) (v : ℕ) → count_in loops 0 v ≡ 1
unfolding count_in chain
count_none loops v = refl

pub count_more : (loops : List Loop) (j v : ℕ)
    → count_in loops (j + 1) v ≡ cond (inside (get_or loops j no_loop) v) (stepped (get_or loops j no_loop) (count_in loops j v)) (count_in loops j v)
unfolding count_in chain
count_more loops j v = rw add-one refl

-- the first n records, lent as a slice of their own
pub count_front : (loops : List Loop) (n v : ℕ) → n ≤ length loops → count_in (take n loops) (length (take n loops)) v ≡ count_in loops n v
unfolding count_in
count_front loops n v h =
    rw (length-take-le n loops h)
    (chain_agree _ _ _ _ n
    (λ j q k. ap (λ (l : Loop). stepped l k) (get_or-take n loops j no_loop q))
    (λ j q. ap (λ (l : Loop). inside l v) (get_or-take n loops j no_loop q)))
