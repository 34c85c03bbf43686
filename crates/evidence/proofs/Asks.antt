-- A range's numbers asked in turn, by `any` or `find`, whether a test holds of them.
use Prim.Native.Nat.{ℕ, ◌+◌, ◌-◌, ◌≤◌, ◌<◌}
use native.Mathlib.Omega.{arith}
use native.Mathlib.Decide.{dec_le}
use mathlib.Core.Path.{◌≡◌, refl, sym, ◌∙◌, ap}
use mathlib.Core.Bool.{Bool, true, false}
use mathlib.Core.List.{List}
use denote.Ref.{Bor}
use denote.Param.Members.{Mut}
use borrow.Author.Count.{below_none}
use lib.ListN.{length}
use Rattle.std.proofs.Common.{Option, None, Some}
use Rattle.std.specs.declared.ops.Range.{Range}
use Rattle.std.specs.Iterator.{YieldsThen}
use Rattle.std.specs.List.{FoldsTo, range_with_len, AllWithin, HoldsAt}
use Rattle.std.specs.Fn.{Called, CalledAt}
use Rattle.std.specs.Option.{MatchOption}
use Rattle.std.specs.Bool.{MatchBool, ⊤}
use Rattle.std.proofs.iter.Yields.{nat_range_steps}
use Rattle.std.proofs.lemmas.Iterator.{cases_from_any, first_from_Range, YieldsList-from_range}
use Rattle.std.proofs.lemmas.List.FromFn.{length-range_with_len, get_or-range_with_len}
use Rattle.paper.specs.Lists.{some}
use Rattle.paper.proofs.Least.{some_end}
use Rattle.layout.specs.Firsts.{first}
use Rattle.layout.proofs.FirstLaws.{first_found, first_end}
use Rattle.paper.proofs.Says.{says_some, says_is, says_bool}

abbrev Any : {F : Type 0} → Mut F (ℕ × Unit {0}) Bool → ℕ → ℕ → Range ℕ → F → Bool → Type 0
Any g a n u f r =
    (xs : List ℕ) × (o : Option ℕ) × (j : _) × YieldsThen nat_range_steps (record { start = a; end = n }) xs o u × FoldsTo (λ p x q. Called g p (x, tt) false q) f xs j
    × MatchOption o (r ≡ false) (λ x. (r ≡ true) × ((h : _) × Called g j (x, tt) true h))

abbrev Find : {F : Type 0} → Mut F (Bor ℕ × Unit {0}) Bool → ℕ → Range ℕ → F → Option ℕ → Type 0
Find g n u f r =
    (xs : List ℕ) × (j : _) × YieldsThen nat_range_steps (record { start = 0; end = n }) xs r u × FoldsTo (λ p x q. CalledAt g p x false q) f xs j
    × MatchOption r ⊤ (λ x. (h : _) × CalledAt g j x true h)

-- p holds at no number before a, and from a on it is the test t that is asked
module _ (p t : ℕ → Bool) (a n : ℕ) (before : (k : ℕ) → k < a → p k ≡ false) (same : (k : ℕ) → a ≤ k → t k ≡ p k) (l : a ≤ n) where
  abbrev numbers : List ℕ
  numbers = range_with_len a (n - a)

  some_told : (r : Bool) → MatchBool r ((k : ℕ) × (k < length numbers) × HoldsAt (λ j. t j ≡ true) numbers k) (AllWithin (λ j. t j ≡ false) numbers 0 (length numbers)) → r ≡ some p n
  some_told true (k, q, h) =
      let e = length-range_with_len a (n - a) in
      let m : k < n - a = omega arith in
      let z : p (a + k) ≡ true = sym (same (a + k) (omega arith)) ∙ ap t (sym (get_or-range_with_len a (n - a) k 0 m)) ∙ h 0 in
      sym (says_is (says_some (λ j. says_bool (p j)) n) (a + k, omega arith, z))
  some_told false h =
      some_end p n n
      (record {
        within = omega arith;
        none = λ k q. elim (dec_le a k) [ yes z ↦ later k q z | no z ↦ before k (omega arith) ];
      })
      (omega arith)
    where
      later : (k : ℕ) → k < n → a ≤ k → p k ≡ false
      later k q z =
          let e = length-range_with_len a (n - a) in
          let i : a + (k - a) ≡ k = omega arith in
          sym (same k z) ∙ ap t (sym i ∙ sym (get_or-range_with_len a (n - a) (k - a) 0 (omega arith))) ∙ h (k - a) 0 (omega arith) (omega arith)

  pub some_asked_from : {F : Type 0} {g : Mut F (ℕ × Unit {0}) Bool} (u : Range ℕ) (f : F) (r : Bool) → Any g a n u f r →
      ((x : ℕ) (b : Bool) (q : F) → Called g f (x, tt) b q → (q ≡ f) × (b ≡ t x)) → r ≡ some p n
  some_asked_from u f r ran says =
      some_told r
      (cases_from_any u f r (λ j. t j ≡ true) (λ j. t j ≡ false) ran (YieldsList-from_range a n (n - a) refl refl)
      (λ x q k. sym (says x true q k).1) (λ x q k. ((says x false q k).0, sym (says x false q k).1)))

module _ (p : ℕ → Bool) (n : ℕ) where
  pub some_asked : {F : Type 0} {g : Mut F (ℕ × Unit {0}) Bool} (u : Range ℕ) (f : F) (r : Bool) → Any g 0 n u f r →
      ((x : ℕ) (b : Bool) (q : F) → Called g f (x, tt) b q → (q ≡ f) × (b ≡ p x)) → r ≡ some p n
  some_asked = some_asked_from p p 0 n (below_none (λ k. p k ≡ false)) (λ k q. refl) (omega arith)

  first_told : (r : Option ℕ) → MatchOption r ((k : ℕ) → 0 ≤ k → k < n → p k ≡ false) (λ i. (0 ≤ i) × (i < n) × (p i ≡ true) × ((k : ℕ) → 0 ≤ k → k < i → p k ≡ false)) → r ≡ first p n
  first_told None h = first_end p n n (record { within = omega arith; none = λ k q. h k (omega arith) q }) (omega arith)
  first_told (Some i) (z, l, e, h) = first_found p n i (record { within = omega arith; none = λ k q. h k (omega arith) q }) true l (sym e) refl

  pub first_asked : {F : Type 0} {g : Mut F (Bor ℕ × Unit {0}) Bool} (u : Range ℕ) (f : F) (r : Option ℕ) → Find g n u f r →
      ((x : ℕ) (b : Bool) (q : F) → CalledAt g f x b q → (q ≡ f) × (b ≡ p x)) → r ≡ first p n
  first_asked u f r ran says =
      first_told r
      (first_from_Range _ u f r (λ j. p j ≡ true) (λ j. p j ≡ false) ran (λ x q k. sym (says x true q k).1) (λ x q k. ((says x false q k).0, sym (says x false q k).1)))
