-- Rows of a table, read and put, and rows put one after another.
use Prim.Native.Nat.{ℕ, ◌+◌, ◌*◌, ◌≤◌, ◌<◌}
use native.Mathlib.Omega.{arith}
use native.Mathlib.Decide.{ℕ_discrete}
use native.Mathlib.Numerals.{add-one, unary_clauses}
use mathlib.Core.Path.{◌≡◌, refl, sym, ◌∙◌, ap, subst}
use mathlib.Core.List.{List, [], ◌∷◌, ◌++◌}
use lib.ListN.{length, get_or, set, drop, length-append, length-drop}
use Rattle.lines.specs.Lines.{eight}
use Rattle.lines.proofs.Eight.{made_of}
use Rattle.paper.specs.Lists.{each}
use Rattle.search.specs.Steps.{plain, lowered}
use Rattle.search.specs.Passes.{table_row, with_row}
use Rattle.search.proofs.Tables.{with_length, with_is, with_others}
use Rattle.search.proofs.Found.{each_length, rows_more, lowered_long}

pub read_row : (l : List ℕ) (j : ℕ) →
    get_or l (8 * j) 0
    ∷ get_or l (8 * j + 1) 0
    ∷ get_or l (8 * j + 2) 0
    ∷ get_or l (8 * j + 3) 0
    ∷ get_or l (8 * j + 4) 0
    ∷ get_or l (8 * j + 5) 0
    ∷ get_or l (8 * j + 6) 0
    ∷ get_or l (8 * j + 7) 0
    ∷ []
    ≡ table_row l j
unfolding table_row
read_row l j =
    let z : 8 * j ≡ 8 * j + 0 = omega arith in
    made_of _ (ap (λ (p : ℕ). get_or l p 0) z) refl refl refl refl refl refl refl

-- eight stores side by side
pub stored_row : (l : List ℕ) (j : ℕ) (r : List ℕ) →
    let at = 8 * j in
    let low = set (set (set (set l at (get_or r 0 0)) (at + 1) (get_or r 1 0)) (at + 2) (get_or r 2 0)) (at + 3) (get_or r 3 0) in
    set (set (set (set low (at + 4) (get_or r 4 0)) (at + 5) (get_or r 5 0)) (at + 6) (get_or r 6 0)) (at + 7) (get_or r 7 0) ≡ with_row l j r
unfolding with_row eight
stored_row l j r = simp unary_clauses refl

plain_long : (n : ℕ) → length (plain n) ≡ 8
unfolding plain eight
plain_long n = refl

-- the first j of n rows are 9, and the table is as long as it was
module _ (old : List ℕ) (n : ℕ) where
  pub record Nines (j : ℕ) (l : List ℕ) : Type 0 where
    pub within : j ≤ n
    pub kept : length l ≡ length old
    pub nines : (k : ℕ) → k < j → table_row l k ≡ plain 9

  pub nines_start : Nines 0 old
  nines_start = record { within = omega arith; kept = refl; nines = λ k h. absurd (omega arith) }

  pub nines_more : (j : ℕ) (l l' r : List ℕ) → Nines j l → j < n → 8 * n ≤ length old → r ≡ plain 9 → l' ≡ with_row l j r → Nines (j + 1) l'
  nines_more j l l' r w h long p q =
      subst (Nines (j + 1)) (sym (q ∙ ap (with_row l j) p))
      (record {
        within = omega arith;
        kept = with_length l j (plain 9) ∙ w.kept;
        nines = λ k m.
            elim (ℕ_discrete k j) [
              | yes z ↦ rw z (with_is l j (plain 9) (omega (arith, w.kept)) (plain_long 9))
              | no d ↦ with_others l j (plain 9) k d ∙ w.nines k (omega arith)
            ];
      })

-- the first j of n rows of the table, for the limit l, are put one after another into the lent rows
module _ (lent table : List ℕ) (l n : ℕ) where
  abbrev lent_row : ℕ → List ℕ
  lent_row j = lowered l (table_row table j)

  pub record Lending (j : ℕ) (rows : List ℕ) : Type 0 where
    pub within : j ≤ n
    pub list : rows ≡ each lent_row j ++ drop (8 * j) lent

  pub lending_start : Lending 0 lent
  unfolding each
  lending_start = record { within = omega arith; list = refl }

  module _ (room : 8 * n ≤ length lent) where
    pub lending_kept : (j : ℕ) (rows : List ℕ) → Lending j rows → length rows ≡ length lent
    lending_kept j rows w =
        omega (
          arith,
          ap length w.list,
          length-append (each lent_row j) (drop (8 * j) lent),
          each_length lent_row (lowered_long l table) j,
          length-drop (8 * j) lent,
          w.within,
        )

    pub lending_more : (j : ℕ) (rows rows' r : List ℕ) → Lending j rows → j < n → r ≡ lent_row j → rows' ≡ with_row rows j r → Lending (j + 1) rows'
    lending_more j rows rows' r w h p q =
        rw (add-one j)
        (record {
          within = h;
          list = q ∙ ap (with_row rows j) p ∙ ap (λ (x : List ℕ). with_row x j (lent_row j)) w.list ∙ rows_more lent_row (lowered_long l table) lent j (omega arith);
        })

  pub lending_end : (j : ℕ) (rows : List ℕ) → Lending j rows → n ≤ j → rows ≡ each lent_row n ++ drop (8 * n) lent
  lending_end j rows w h =
      let z : j ≡ n = omega (arith, w.within) in
      w.list ∙ ap (λ (k : ℕ). each lent_row k ++ drop (8 * k) lent) z
