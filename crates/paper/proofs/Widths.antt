-- Lists of numbers below a bound; bytes are those below 256.
use Prim.Native.Nat.{ℕ, zero, suc, ◌<◌}
use native.Mathlib.Omega.{arith}
use mathlib.Core.Path.{refl}
use mathlib.Core.Logic.{⊎_elim}
use mathlib.Core.List.Memᴰ
use mathlib.Core.List.{List, [], ◌∷◌, ◌++◌, Memᴰ}
use lib.ListN.{get_or}
use Rattle.paper.specs.OneFact.{words}
use Rattle.paper.specs.Demands.{Bytes}

abbrev pub Below : ℕ → List ℕ → Type 0
Below n l = (x : ℕ) → Memᴰ x l → x < n

module _ (n : ℕ) where
  pub below_nil : Below n []
  below_nil x m = absurd (Memᴰ.not-nil m)

  pub below_cons : (y : ℕ) (l : List ℕ) → y < n → Below n l → Below n (y ∷ l)
  below_cons y l h b x m = ⊎_elim (λ e. omega arith) (λ k. b x k) (Memᴰ.cases_cons m)

  pub below_append : (s t : List ℕ) → Below n s → Below n t → Below n (s ++ t)
  below_append s t a b x m = ⊎_elim (a x) (b x) (Memᴰ.append_cases s m)

  -- past its end a list reads as 0
  pub below_at : (l : List ℕ) → 0 < n → Below n l → (i : ℕ) → get_or l i 0 < n
  below_at [] z b i = z
  below_at (y ∷ l) z b zero = b y (Memᴰ.head refl)
  below_at (y ∷ l) z b (suc i) = below_at l z (λ x m. b x (Memᴰ.tail m)) i

-- 16-bit numbers are written as bytes
pub words_bytes : (xs : List ℕ) → Below 65536 xs → Bytes (words xs)
unfolding words
words_bytes [] b = below_nil 256
words_bytes (x ∷ xs) b =
    let h = b x (Memᴰ.head refl) in
    below_cons 256 _ _ (omega arith) (below_cons 256 _ _ (omega arith) (words_bytes xs (λ y m. b y (Memᴰ.tail m))))
