-- The laws of `table`, and of a loop that writes one into a lent list.
use Prim.Native.Nat.{ℕ, zero, suc, ◌+◌, ◌≤◌, ◌<◌}
use native.Mathlib.Omega.{arith}
use native.Mathlib.Numerals.{add-one}
use mathlib.Core.List.{List, [], ◌∷◌, ◌++◌, append_assoc}
use mathlib.Core.Path.{◌≡◌, refl, sym, ◌∙◌, ap, ap₂}
use lib.ListN.{length, get_or, drop, set, length-append, length-drop}
use Rattle.paper.specs.Lists.{table}
use lib.Seq.{drop-cons, set_at}

-- the last value stands at the end
pub table_more : {A : Type 0} (g : ℕ → A) (n : ℕ) → table g (suc n) ≡ table g n ++ (g n ∷ [])
unfolding table
table_more g zero = refl
table_more g (suc n) = ap {B = List _} (λ l. g 0 ∷ l) (table_more (λ i. g (suc i)) n)

pub length_table : {A : Type 0} (g : ℕ → A) (n : ℕ) → length (table g n) ≡ n
unfolding table
length_table g zero = refl
length_table g (suc n) = omega (arith, length_table (λ i. g (suc i)) n)

pub get_d_table : {A : Type 0} (g : ℕ → A) (n i : ℕ) (d : A) → i < n → get_or (table g n) i d ≡ g i
unfolding table
get_d_table g zero i d h = absurd (omega arith)
get_d_table g (suc n) zero d h = refl
get_d_table g (suc n) (suc i) d h = get_d_table (λ k. g (suc k)) n i d (omega arith)

-- a table is known by its entries, and so is a list
pub same_table : {A : Type 0} (f g : ℕ → A) (n : ℕ) → ((i : ℕ) → i < n → f i ≡ g i) → table f n ≡ table g n
unfolding table
same_table f g zero h = refl
same_table f g (suc n) h = ap₂ ◌∷◌ (h 0 (omega arith)) (same_table (λ i. f (suc i)) (λ i. g (suc i)) n (λ i q. h (suc i) (omega arith)))

pub table_list : (l : List ℕ) → table (λ i. get_or l i 0) (length l) ≡ l
unfolding table
table_list [] = refl
table_list (x ∷ l) = ap {B = List ℕ} (λ r. x ∷ r) (table_list l)

pub table_is : (g : ℕ → ℕ) (n : ℕ) (l : List ℕ) → length l ≡ n → ((i : ℕ) → i < n → g i ≡ get_or l i 0) → table g n ≡ l
table_is g n l e h = same_table g (λ i. get_or l i 0) n h ∙ ap (table (λ i. get_or l i 0)) (sym e) ∙ table_list l

-- the first k are written, the others as they were
pub record Written (g : ℕ → ℕ) (n : ℕ) (old : List ℕ) (k : ℕ) (l : List ℕ) : Type 0 where
  pub within : k ≤ n
  pub room : n ≤ length old
  pub list : l ≡ table g k ++ drop k old

module _ (g : ℕ → ℕ) (n : ℕ) (old : List ℕ) where
  pub written_start : n ≤ length old → Written g n old 0 old
  unfolding table
  written_start h = record { within = omega arith; room = h; list = refl }

  pub written_length : (k : ℕ) (l : List ℕ) → Written g n old k l → length l ≡ length old
  written_length k l w =
      ap length w.list ∙ length-append (table g k) (drop k old) ∙ omega (arith, length_table g k, length-drop k old, w.within, w.room)

  pub written_more : (k : ℕ) (l : List ℕ) (x : ℕ) → Written g n old k l → k < n → x ≡ g k → Written g n old (k + 1) (set l k x)
  written_more k l x w h e =
      let q : k < length old = omega (arith, w.room) in
      record {
        within = omega arith;
        room = w.room;
        list =
            rw (w.list, e, add-one, table_more g k, drop-cons old k 0 q, append_assoc)
            (set_at (table g k) _ (drop (suc k) old) (g k) k (length_table g k));
      }

  pub written_end : (k : ℕ) (l : List ℕ) → Written g n old k l → n ≤ k → l ≡ table g n ++ drop n old
  written_end k l w h =
      let z : n ≡ k = omega (arith, w.within) in
      rw z w.list
