-- The rows that are lent, as a list: their length, and each row in it.
use Prim.Native.Nat.{ℕ, zero, suc, ◌+◌, ◌*◌, ◌≤◌, ◌<◌}
use native.Mathlib.Omega.{arith}
use native.Mathlib.Decide.{ℕ_discrete}
use mathlib.Core.Path.{◌≡◌, refl, sym, ◌∙◌, ap, ap₂}
use mathlib.Core.Bool.{Bool, true, false, cond, ◌&&◌}
use mathlib.Core.List.{List, ◌++◌}
use lib.Dec.{ltb, leb}
use lib.ListN.{length, get_or, drop, length-append, length-drop, get_or-append}
use lib.Seq.{sets, sets-eq, take_at, drop-append-add, drop-drop, get_or-append-add}
use Rattle.paper.specs.Lists.{table, each}
use Rattle.paper.specs.Cases.{Fact, Case, size, scope_of}
use Rattle.paper.specs.Files.{u16_at, row_at}
use Rattle.paper.specs.OneFact.{words}
use Rattle.paper.specs.Writing.{row_from}
use Rattle.paper.specs.Finding.{rows_length}
use Rattle.paper.proofs.TableLaws.{table_is}
use Rattle.paper.proofs.Parts.{stands_self}
use Rattle.paper.proofs.Sections.{length_words, word_is}
use Rattle.lines.specs.Lines.{eight}
use Rattle.theory.proofs.Enough.{plain_row}
use Rattle.theory.proofs.SameRow.{Same}
use Rattle.theory.proofs.LeastLimit as Limits
use Rattle.search.specs.Steps.{number_of, row_by, plain, lowered}
use Rattle.search.specs.Passes.{table_row, with_row, rows_found}
use Rattle.search.proofs.Placing.{plain_same}

eight_is : (r : List ℕ) → length r ≡ 8 → eight (λ i. get_or r i 0) ≡ r
unfolding eight table
eight_is r e = table_is (λ i. get_or r i 0) 8 r e (λ i h. refl)

-- lists of eight, one after another
module _ (g : ℕ → List ℕ) (long : (j : ℕ) → length (g j) ≡ 8) where
  pub each_length : (n : ℕ) → length (each g n) ≡ 8 * n
  unfolding each
  each_length zero = refl
  each_length (suc n) = omega (arith, length-append (each g n) (g n), each_length n, long n)

  each_at : (n j i : ℕ) → j < n → i < 8 → get_or (each g n) (8 * j + i) 0 ≡ get_or (g j) i 0
  unfolding each
  each_at zero j i h l = absurd (omega arith)
  each_at (suc n) j i h l =
      elim (ℕ_discrete j n) [
        | yes p ↦
            rw p
            (ap (λ (q : ℕ). get_or (each g n ++ g n) (q + i) 0) (sym (each_length n)) ∙ get_or-append-add (each g n) (g n) i 0)
        | no m ↦ get_or-append (each g n) (g n) 0 (8 * j + i) (omega (arith, each_length n)) ∙ each_at n j i (omega arith) l
      ]

  -- row j put after those before it, where the rest of the list is as it was
  pub rows_more : (lent : List ℕ) (j : ℕ) → 8 * j + 8 ≤ length lent → with_row (each g j ++ drop (8 * j) lent) j (g j) ≡ each g (suc j) ++ drop (8 * suc j) lent
  unfolding with_row each
  rows_more lent j h =
      let all = each g j ++ drop (8 * j) lent in
      let front = each_length j in
      let row : eight (λ i. get_or (g j) i 0) ≡ g j = eight_is (g j) (long j) in
      let room : 8 * j + length (g j) ≤ length all = omega (arith, long j, length-append (each g j) (drop (8 * j) lent), length-drop (8 * j) lent) in
      ap (sets all (8 * j)) row
      ∙ sets-eq (g j) all (8 * j) room
      ∙ ap₂ (λ (a b : List ℕ). a ++ g j ++ b) (take_at (each g j) (drop (8 * j) lent) (8 * j) front) rest
    where
      rest : drop (8 * j + length (g j)) (each g j ++ drop (8 * j) lent) ≡ drop (8 * suc j) lent
      rest =
          let p : 8 * j + length (g j) ≡ length (each g j) + 8 = omega (arith, each_length j, long j) in
          let q : 8 * j + 8 ≡ 8 * suc j = omega arith in
          ap (λ (k : ℕ). drop k (each g j ++ drop (8 * j) lent)) p ∙ drop-append-add (each g j) (drop (8 * j) lent) 8 ∙ drop-drop 8 (8 * j) lent ∙ ap (λ (k : ℕ). drop k lent) q

  -- row j of them, as it is lent and as bytes
  module _ (n j : ℕ) (h : j < n) where
    pub row_lent : Same (row_by (g j)) (row_from (each g n) j)
    row_lent =
        record {
          number = let z : 8 * j ≡ 8 * j + 0 = omega arith in ap (λ (q : ℕ). get_or (each g n) q 0) z ∙ each_at n j 0 h (omega arith);
          slot = λ k l. let z : 8 * j + 1 + k ≡ 8 * j + suc k = omega arith in ap (λ (q : ℕ). get_or (each g n) q 0) z ∙ each_at n j (suc k) h (omega arith);
        }

    word : (p i : ℕ) → p ≡ 0 + 2 * (8 * j + i) → i < 8 → u16_at (words (each g n)) p ≡ get_or (g j) i 0
    word p i q l =
        ap (u16_at (words (each g n))) q ∙ word_is (words (each g n)) 0 (each g n) (stands_self (words (each g n))) (8 * j + i) (omega (arith, each_length n)) ∙ each_at n j i h l

    pub row_written : Same (row_by (g j)) (row_at (words (each g n)) (16 * j))
    row_written =
        record { number = word (16 * j) 0 (omega arith) (omega arith); slot = λ k l. word (16 * j + 2 + 2 * k) (suc k) (omega arith) (omega arith) }

  pub words_length : (n : ℕ) → length (words (each g n)) ≡ 16 * n
  words_length n = omega (arith, length_words (each g n), each_length n)

-- a row for the limit l is that of the paper's row
pub lowered_same : (l : ℕ) (r : List ℕ) → Same (Limits.lowered l (row_by r)) (row_by (lowered l r))
unfolding lowered Limits.lowered
lowered_same l r = go (ltb (number_of r) 8 && leb l (number_of r))
  where
    go : (b : Bool) → Same (cond b (plain_row 8) (row_by r)) (row_by (cond b (plain 8) r))
    go true = plain_same 8
    go false = record { number = refl; slot = λ k h. refl }

pub lowered_long : (l : ℕ) (table : List ℕ) (j : ℕ) → length (lowered l (table_row table j)) ≡ 8
unfolding lowered plain table_row eight
lowered_long l table j = go (ltb (number_of (table_row table j)) 8 && leb l (number_of (table_row table j)))
  where
    go : (b : Bool) → length (cond b (plain 8) (table_row table j)) ≡ 8
    go true = refl
    go false = refl

pub rows_length_lem : (e : Case) (t : Fact) (table : List ℕ) (l : ℕ) → length (rows_found e t table l) ≡ rows_length e t
unfolding rows_found
rows_length_lem e t table l = each_length (λ j. lowered l (table_row table j)) (lowered_long l table) (size (scope_of e t))
