-- A test and the statement that it decides.
use Prim.Native.Nat.{ℕ, ◌≤◌, ◌<◌}
use native.Mathlib.Omega.{arith}
use native.Mathlib.Decide.{ℕ_discrete, dec_le, dec_lt}
use mathlib.Core.Path.{◌≡◌, refl, sym}
use mathlib.Core.Bool.{Bool, true, false, cond, not, ◌||◌, ◌&&◌, true≢false}
use mathlib.Core.Logic.{◌⊎◌, inl, inr, ⊎_elim, ◌↔◌}
use borrow.Author.Tests.{lt-ltb, le-ltb, le-leb, lt-leb, eq-eqb, ne_eqb}
use lib.Dec.{ltb, leb, eqb}
use Rattle.paper.specs.Lists.{some}
use Rattle.paper.proofs.Least.{none_some, is_some}

-- `Says P t`: the test t is true and P holds, or it is false and P does not
pub data Says (P : Type 0) : Bool → Type 0 where
  holds : P → Says P true
  fails : ¬ P → Says P false

-- a test that is itself a fact
pub says_bool : (b : Bool) → Says (b ≡ true) b
says_bool true = holds refl
says_bool false = fails (λ e. true≢false (sym e))

pub says_lt : (a b : ℕ) → Says (a < b) (ltb a b)
says_lt a b = elim (dec_lt a b) [ yes h ↦ rw (lt-ltb a b h) (holds h) | no n ↦ rw (le-ltb a b (omega arith)) (fails n) ]

pub says_le : (a b : ℕ) → Says (a ≤ b) (leb a b)
says_le a b = elim (dec_le a b) [ yes h ↦ rw (le-leb a b h) (holds h) | no n ↦ rw (lt-leb a b (omega arith)) (fails n) ]

pub says_eq : (a b : ℕ) → Says (a ≡ b) (eqb a b)
says_eq a b = elim (ℕ_discrete a b) [ yes h ↦ rw (eq-eqb a b h) (holds h) | no n ↦ rw (ne_eqb a b n) (fails n) ]

pub says_not : {P : Type 0} {s : Bool} → Says P s → Says (¬ P) (not s)
says_not (holds p) = fails (λ n. n p)
says_not (fails n) = holds n

pub says_and : {P Q : Type 0} {s t : Bool} → Says P s → Says Q t → Says (P × Q) (s && t)
says_and (holds p) (holds q) = holds (p, q)
says_and (holds p) (fails n) = fails (λ r. n r.1)
says_and (fails n) k = fails (λ r. n r.0)

pub says_or : {P Q : Type 0} {s t : Bool} → Says P s → Says Q t → Says (P ⊎ Q) (s || t)
says_or (holds p) k = holds (inl p)
says_or (fails n) (holds q) = holds (inr q)
says_or (fails n) (fails m) = fails (λ r. ⊎_elim n m r)

pub says_no : Says ⊥ false
says_no = fails (λ x. x)

pub says_cond : {P Q R : Type 0} {s t u : Bool} → Says P s → Says Q t → Says R u → Says ((P × Q) ⊎ (¬ P × R)) (cond s t u)
says_cond (holds p) (holds q) r = holds (inl (p, q))
says_cond (holds p) (fails n) r = fails (λ x. ⊎_elim (λ y. n y.1) (λ y. y.0 p) x)
says_cond (fails n) q (holds r) = holds (inr (n, r))
says_cond (fails n) q (fails m) = fails (λ x. ⊎_elim (λ y. n y.0) (λ y. m y.1) x)

pub says_false : {P : Type 0} {s : Bool} → Says P s → (s ≡ false) ↔ (¬ P)
says_false (holds p) = (λ e. absurd (true≢false e), λ n. absurd (n p))
says_false (fails n) = (λ e. n, λ m. refl)

pub says_stable : {P : Type 0} {s : Bool} → Says P s → ¬ (¬ P) → P
says_stable (holds p) h = p
says_stable (fails n) h = absurd (h n)

pub says_true : {P : Type 0} {s : Bool} → Says P s → s ≡ true → P
says_true (holds p) e = p
says_true (fails n) e = absurd (true≢false (sym e))

-- a test of P is a test of all that is equivalent to P
pub says_as : {P Q : Type 0} {s : Bool} → (P → Q) → (Q → P) → Says P s → Says Q s
says_as f g (holds p) = holds (f p)
says_as f g (fails n) = fails (λ q. n (g q))

pub says_is : {P : Type 0} {s : Bool} → Says P s → P → s ≡ true
says_is (holds p) q = refl
says_is (fails n) q = absurd (n q)

-- tests of two statements of which each gives the other
pub says_same : {P Q : Type 0} {s t : Bool} → (P → Q) → (Q → P) → Says P s → Says Q t → s ≡ t
says_same f g (holds p) k = sym (says_is k (f p))
says_same f g (fails n) k = sym ((says_false k).1 (λ q. n (g q)))

pub neither : (a b : Bool) → (a || b) ≡ false → (a ≡ false) × (b ≡ false)
neither true b e = absurd (true≢false e)
neither false b e = (refl, e)

pub both : (a b : Bool) → (a && b) ≡ true → (a ≡ true) × (b ≡ true)
both true b e = (refl, e)
both false b e = absurd (true≢false (sym e))

pub says_some : {p : ℕ → Bool} {P : ℕ → Type 0} → ((k : ℕ) → Says (P k) (p k)) → (n : ℕ) → Says ((k : ℕ) × (k < n) × P k) (some p n)
says_some {p} {P} h n = go (some p n) refl
  where
    go : (b : Bool) → some p n ≡ b → Says ((k : ℕ) × (k < n) × P k) b
    go true e = let w = is_some p n e in holds (w.at, w.below, says_true (h w.at) w.holds)
    go false e = fails (λ s. (says_false (h s.0)).0 (none_some p n e s.0 s.1) s.2)
