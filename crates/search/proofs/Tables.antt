-- A table with one of its rows replaced: that row is the new one, and the others are as they were.
use Prim.Native.Nat.{ℕ, zero, suc, ◌+◌, ◌*◌, ◌≤◌, ◌<◌}
use native.Mathlib.Omega.{arith}
use native.Mathlib.Decide.{dec_lt}
use mathlib.Core.Path.{◌≡◌, refl, sym, ◌∙◌, ap}
use mathlib.Core.Logic.{◌≢◌, ◌⊎◌, inl, inr, ⊎_elim}
use mathlib.Core.List.{List, [], ◌∷◌}
use lib.ListN.{length, get_or, set, length-set}
use lib.Seq.{sets, length-sets, get_or-set_same, get_or-set_other}
use Rattle.paper.specs.Lists.{table}
use Rattle.paper.proofs.TableLaws.{same_table, table_is}
use Rattle.lines.specs.Lines.{eight}
use Rattle.theory.proofs.SameRow.{Same}
use Rattle.search.specs.Steps.{row_by}
use Rattle.search.specs.Passes.{table_row, with_row}
use Rattle.search.proofs.Placing.{entry}

-- a run of stores, by index
sets_other : (l : List ℕ) (p : ℕ) (vs : List ℕ) (i : ℕ) → (i < p) ⊎ (p + length vs ≤ i) → get_or (sets l p vs) i 0 ≡ get_or l i 0
sets_other l p [] i h = refl
sets_other l p (x ∷ vs) i h =
    sets_other (set l p x) (suc p) vs i (⊎_elim (λ a. inl (omega arith)) (λ a. inr (omega arith)) h)
    ∙ get_or-set_other l p i x 0 (λ q. ⊎_elim (λ a. omega arith) (λ a. omega arith) h)

sets_at : (l : List ℕ) (p : ℕ) (vs : List ℕ) (i : ℕ) → i < length vs → p + length vs ≤ length l → get_or (sets l p vs) (p + i) 0 ≡ get_or vs i 0
sets_at l p [] i h b = absurd (omega arith)
sets_at l p (x ∷ vs) zero h b =
    let z : p + 0 ≡ p = omega arith in
    ap (λ (q : ℕ). get_or (sets (set l p x) (suc p) vs) q 0) z ∙ sets_other (set l p x) (suc p) vs p (inl (omega arith)) ∙ get_or-set_same l p x 0 (omega arith)
sets_at l p (x ∷ vs) (suc i) h b =
    let z : p + suc i ≡ suc p + i = omega arith in
    ap (λ (q : ℕ). get_or (sets (set l p x) (suc p) vs) q 0) z ∙ sets_at (set l p x) (suc p) vs i (omega arith) (omega (arith, length-set l p x))

eight_long : (g : ℕ → ℕ) → length (eight g) ≡ 8
unfolding eight
eight_long g = refl

pub row_entry : (l : List ℕ) (j i : ℕ) → i < 8 → get_or (table_row l j) i 0 ≡ get_or l (8 * j + i) 0
unfolding table_row
row_entry l j i h = entry (λ k. get_or l (8 * j + k) 0) i h

-- rows are known by their entries
pub same_row : (l l' : List ℕ) (j : ℕ) → ((i : ℕ) → i < 8 → get_or l (8 * j + i) 0 ≡ get_or l' (8 * j + i) 0) → table_row l j ≡ table_row l' j
unfolding table_row eight table
same_row l l' j h = same_table (λ i. get_or l (8 * j + i) 0) (λ i. get_or l' (8 * j + i) 0) 8 h

module _ (l : List ℕ) (j : ℕ) (r : List ℕ) where
  pub with_length : length (with_row l j r) ≡ length l
  unfolding with_row
  with_length = length-sets l (8 * j) (eight (λ i. get_or r i 0))

  pub with_entry : 8 * j + 8 ≤ length l → (i : ℕ) → i < 8 → get_or (table_row (with_row l j r) j) i 0 ≡ get_or r i 0
  unfolding with_row
  with_entry h i m =
      let z = eight_long (λ k. get_or r k 0) in
      row_entry (with_row l j r) j i m ∙ sets_at l (8 * j) (eight (λ k. get_or r k 0)) i (omega arith) (omega arith) ∙ entry (λ k. get_or r k 0) i m

  pub with_row_lem : 8 * j + 8 ≤ length l → Same (row_by r) (row_by (table_row (with_row l j r) j))
  with_row_lem h = record { number = with_entry h 0 (omega arith); slot = λ k m. with_entry h (suc k) (omega arith) }

  -- a row of eight numbers is read back as it was
  pub with_is : 8 * j + 8 ≤ length l → length r ≡ 8 → table_row (with_row l j r) j ≡ r
  unfolding table_row eight table
  with_is h e = table_is (λ i. get_or (with_row l j r) (8 * j + i) 0) 8 r e (λ i m. sym (row_entry (with_row l j r) j i m) ∙ with_entry h i m)

  pub with_others : (i : ℕ) → i ≢ j → table_row (with_row l j r) i ≡ table_row l i
  unfolding with_row
  with_others i n =
      let z = eight_long (λ k. get_or r k 0) in
      same_row (with_row l j r) l i λ k m. sets_other l (8 * j) (eight (λ q. get_or r q 0)) (8 * i + k) (apart k m (omega arith))
    where
      apart : (k : ℕ) → k < 8 → length (eight (λ q. get_or r q 0)) ≡ 8 → (8 * i + k < 8 * j) ⊎ (8 * j + length (eight (λ q. get_or r q 0)) ≤ 8 * i + k)
      apart k m z = elim (dec_lt i j) [ yes a ↦ inl (omega arith) | no b ↦ inr (omega arith) ]
