-- Records put one after another: the loops of a list, and its facts, whose rows are counted on the way.
use Prim.Native.Nat.{ℕ, ◌+◌, ◌-◌, ◌*◌, ◌≤◌, ◌<◌}
use native.Mathlib.Omega.{arith}
use native.Mathlib.Numerals.{add-one}
use mathlib.Core.Path.{◌≡◌, refl, sym, ◌∙◌, ap}
use mathlib.Core.List.{List, [], ◌∷◌, ◌++◌}
use lib.ListN.{length, get_or, take, drop}
use Rattle.paper.specs.Lists.{sum_to, each, spaced, part}
use Rattle.paper.specs.OneFact.{words}
use Rattle.paper.specs.Writing.{rows_named, rows_before, fact_bytes}
use Rattle.lists.proofs.Turning.{sum_below}
use Rattle.puts.specs.Put.{Put}
use Rattle.puts.proofs.Putting.{put_length, put_then}
use Rattle.writer.specs.Room.{of_facts, FactsFit}
use Rattle.writer.proofs.Words.{put_none, part_is}

-- The first i records are put.
pub record Joined (g : ℕ → List ℕ) (old : List ℕ) (at : ℕ) (l : List ℕ) (to i : ℕ) : Type 0 where
  pub put : Put old at (each g i) to l
  pub kept : length l ≡ length old

module _ {g : ℕ → List ℕ} {old : List ℕ} {at : ℕ} where
  pub joined_start : Joined g old at old at 0
  unfolding each
  joined_start = record { put = put_none; kept = refl }

  pub joined_more : {l m : List ℕ} {to next i : ℕ} → Joined g old at l to i → Put l to (g i) next m → Joined g old at m next (i + 1)
  unfolding each
  joined_more {i = i} r p = record { put = rw (add-one i) (put_then r.put p); kept = put_length p ∙ r.kept }

module _ (heads rows : List ℕ) where
  -- a fact's head and its rows, as they are taken from the lists
  pub fact_parts_lem : (i r n : ℕ) → r ≡ rows_before (of_facts heads rows) i → n ≡ get_or heads (4 * i + 3) 0 → 4 * i + 4 ≤ length heads → 8 * (r + n) ≤ length rows →
      words (take (4 * i + 3 - 4 * i) (drop (4 * i) heads)) ++ words (take (8 * (r + n) - 8 * r) (drop (8 * r) rows)) ≡ fact_bytes (of_facts heads rows) i
  unfolding fact_bytes rows_named spaced
  fact_parts_lem i r n e q h k =
      let three : 4 * i + 3 - 4 * i ≡ 3 = omega arith in
      let many : 8 * (r + n) - 8 * r ≡ 8 * n = omega arith in
      let two : 4 * i + 1 + 1 ≡ 4 * i + 2 = omega arith in
      let head : take 3 (drop (4 * i) heads) ≡ get_or heads (4 * i) 0 ∷ get_or heads (4 * i + 1) 0 ∷ get_or heads (4 * i + 2) 0 ∷ [] =
      sym (part_is heads 3 (4 * i) (omega arith)) ∙ rw two refl in
      let body : take (8 * n) (drop (8 * r) rows) ≡ part rows (8 * r) (8 * n) = sym (part_is rows (8 * n) (8 * r) (omega arith)) in
      rw (three, many, head, body, e, q) refl

  -- the rows named so far, with one fact more
  pub named_more : (i r n : ℕ) → r ≡ rows_before (of_facts heads rows) i → n ≡ get_or heads (4 * i + 3) 0 → r + n ≡ rows_before (of_facts heads rows) (i + 1)
  unfolding rows_named sum_to
  named_more i r n e q = rw (add-one i) (ap (λ (k : ℕ). k + n) e ∙ ap (λ (k : ℕ). rows_before (of_facts heads rows) i + k) q)

  module _ (n : ℕ) (f : FactsFit heads rows n) (i r : ℕ) (e : r ≡ rows_before (of_facts heads rows) i) where
    -- fact i's rows are among the rows
    pub rows_there : i < n → 8 * (r + rows_named (of_facts heads rows) i) ≤ length rows
    rows_there h = omega (arith, e, f.named, sum_below (rows_named (of_facts heads rows)) i n h)
