-- Strictly rising lists.
use Prim.Native.Nat.{ℕ, zero, suc, ◌+◌, ◌≤◌, ◌<◌}
use native.Mathlib.Omega.{arith}
use native.Mathlib.Decide.{ℕ_discrete}
use mathlib.Core.Path.{◌≡◌, refl, sym, ap₂}
use mathlib.Core.Logic.{◌≢◌, ⊎_elim}
use mathlib.Core.List.Memᴰ
use mathlib.Core.List.{List, [], ◌∷◌, Memᴰ}
use lib.ListN.{length}
use Rattle.paper.specs.Demands.{Rising}

-- c is not the first
later : {c y : ℕ} {t : List ℕ} → c ≢ y → Memᴰ c (y ∷ t) → Memᴰ c t
later n m = ⊎_elim (λ e. absurd (n e)) (λ m'. m') (Memᴰ.cases_cons m)

-- a rising list whose elements another has is no longer
pub no_longer : (t s : List ℕ) → Rising t → Rising s → ((c : ℕ) → Memᴰ c s → Memᴰ c t) → length s ≤ length t
no_longer [] [] a b h = omega arith
no_longer [] (x ∷ s) a b h = absurd (Memᴰ.not-nil (h x (Memᴰ.head refl)))
no_longer (y ∷ t) [] a b h = omega arith
no_longer (y ∷ t) (x ∷ s) a b h =
    ⊎_elim
    (λ e. omega (arith, no_longer t s a.1 b.1 (λ c m. later (omega (arith, b.0 c m)) (h c (Memᴰ.tail m)))))
    (λ i. omega (arith, no_longer t (x ∷ s) a.1 b (λ c m. later (⊎_elim (λ e. omega (arith, a.0 x i)) (λ j. omega (arith, a.0 x i, b.0 c j)) (Memᴰ.cases_cons m)) (h c m))))
    (Memᴰ.cases_cons (h x (Memᴰ.head refl)))

-- rising lists with the same elements are the same
pub rising_same : (t s : List ℕ) → Rising t → Rising s → ((c : ℕ) → Memᴰ c s → Memᴰ c t) → ((c : ℕ) → Memᴰ c t → Memᴰ c s) → t ≡ s
rising_same [] [] a b h g = refl
rising_same [] (x ∷ s) a b h g = absurd (Memᴰ.not-nil (h x (Memᴰ.head refl)))
rising_same (y ∷ t) [] a b h g = absurd (Memᴰ.not-nil (g y (Memᴰ.head refl)))
rising_same (y ∷ t) (x ∷ s) a b h g =
    ap₂ ◌∷◌ first
    (rising_same t s a.1 b.1 (λ c m. later (omega (arith, first, b.0 c m)) (h c (Memᴰ.tail m))) (λ c m. later (omega (arith, first, a.0 c m)) (g c (Memᴰ.tail m))))
  where
    first : y ≡ x
    first =
        ⊎_elim (λ e. sym e) (λ i. ⊎_elim (λ e. e) (λ j. absurd (omega (arith, a.0 x i, b.0 y j))) (Memᴰ.cases_cons (g y (Memᴰ.head refl))))
        (Memᴰ.cases_cons (h x (Memᴰ.head refl)))

-- the numbers from i on, below i + k, of which P holds
pub record Those (P : ℕ → Type 0) (i k : ℕ) : Type 0 where
  pub list : List ℕ
  pub rising : Rising list
  pub only : (c : ℕ) → Memᴰ c list → (i ≤ c) × P c
  pub all : (c : ℕ) → i ≤ c → c < i + k → P c → Memᴰ c list

module _ {P : ℕ → Type 0} where
  add : {i k : ℕ} → Dec (P i) → Those P (suc i) k → Those P i (suc k)
  add {i} {k} (yes p) t =
      record {
        list = i ∷ t.list;
        rising = (λ y m. (t.only y m).0, t.rising);
        only = λ c m. ⊎_elim (λ e. (omega arith, rw e p)) (λ j. (omega (arith, (t.only c j).0), (t.only c j).1)) (Memᴰ.cases_cons m);
        all = λ c l h p'. elim (ℕ_discrete c i) [ yes e ↦ Memᴰ.head e | no n ↦ Memᴰ.tail (t.all c (omega arith) (omega arith) p') ];
      }
  add {i} (no n) t =
      record {
        list = t.list;
        rising = t.rising;
        only = λ c m. (omega (arith, (t.only c m).0), (t.only c m).1);
        all = λ c l h p. t.all c (elim (ℕ_discrete c i) [ yes e ↦ absurd (n (rw e at p)) | no m ↦ omega arith ]) (omega arith) p;
      }

  pub those : ((c : ℕ) → Dec (P c)) → (k i : ℕ) → Those P i k
  those P? zero i = record { list = []; rising = tt; only = λ c m. absurd (Memᴰ.not-nil m); all = λ c l h p. absurd (omega arith) }
  those P? (suc k) i = add (P? i) (those P? k (suc i))
