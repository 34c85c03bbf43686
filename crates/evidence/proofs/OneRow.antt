-- Rule 16 for one row, branch by branch.
use Prim.Native.Nat.{ℕ, ◌+◌, ◌≤◌, ◌<◌}
use native.Mathlib.Omega.{arith}
use mathlib.Core.Path.{◌≡◌, refl, sym, ◌∙◌}
use mathlib.Core.Bool.{Bool, true, false}
use borrow.Author.Tests.{lt-ltb, le-ltb, le-leb, lt-leb}
use lib.ListN.{length}
use mathlib.Core.List.{List}
use Rattle.paper.specs.declared.Trailer.{Trailer}
use Rattle.paper.specs.Lists.{some}
use Rattle.paper.specs.Cases.{Row, Case, Fact}
use Rattle.paper.specs.Records.{row_size}
use Rattle.paper.specs.Files.{row_place, row_at, case_of}
use Rattle.paper.specs.Facts.{bad_slot, bad_row}
use Rattle.paper.proofs.Least.{none_some, is_some, some_is}
use Rattle.paper.proofs.Meaning.{SoundRow}
use Rattle.paper.proofs.RowLaws.{held_set, held_other, row_law}
use Rattle.evidence.specs.RowParts.{unfree, SetAt, RisingAt}
use Rattle.evidence.specs.declared.Head.{Head}
use Rattle.evidence.specs.Stands.{fact_of, nodes_of, SoundRows}
use Rattle.evidence.proofs.Scopes.{row_is}
use Rattle.evidence.proofs.Slots.{set_held, rest_test}

module _ (e : Case) (t : Fact) (r : Row) (n : ℕ) (q : n ≡ r.number) where
  -- "A row whose number is above 9 is not sound."
  pub row_high : 9 < n → true ≡ bad_row e t r
  unfolding bad_row
  row_high l = rw (← q, lt-ltb 9 n l) refl

  others : 8 ≤ n → n ≤ 9 → bad_row e t r ≡ some (bad_slot e t r) 7
  unfolding bad_row
  others l h = rw (← q, le-ltb 9 n h, le-ltb n 8 l) refl

  -- "For rows 8 and 9 all slots are free."
  pub row_other : (b : Bool) → 8 ≤ n → n ≤ 9 → b ≡ some (unfree 0 r) 7 → b ≡ bad_row e t r
  row_other b l h w = w ∙ rest_test 0 r e t (held_other r (omega arith)) (λ k x. absurd (omega arith)) ∙ sym (others l h)

  module _ (l : n < 8) where
    -- "at most l-1 blocks"
    pub row_long : t.limit ≤ n → true ≡ bad_row e t r
    unfolding bad_row
    row_long h =
        let z : n ≤ 9 = omega arith in
        rw (← q, le-ltb 9 n z, lt-ltb n 8 l, le-leb t.limit n h) refl

    module _ (h : n < t.limit) where
      slots : bad_row e t r ≡ some (bad_slot e t r) 7
      unfolding bad_row
      slots =
          let z : n ≤ 9 = omega arith in
          rw (← q, le-ltb 9 n z, lt-ltb n 8 l, lt-leb t.limit n h) refl

      module _ (b : Bool) (w : b ≡ some (bad_slot e t r) n) where
        pub row_block : b ≡ true → true ≡ bad_row e t r
        row_block z =
            let a = is_some (bad_slot e t r) n (sym w ∙ z) in
            sym
            (slots
            ∙ some_is (bad_slot e t r) 7 (record { at = a.at; below = omega (arith, a.below); none = a.none; holds = a.holds }))

        pub row_set : (c : Bool) → b ≡ false → c ≡ some (unfree n r) 7 → c ≡ bad_row e t r
        row_set c z a =
            a ∙ rest_test n r e t (held_set r (omega arith) ∙ sym q) (none_some (bad_slot e t r) n (sym w ∙ z)) ∙ sym slots

-- the row of the scope's node j, once rule 16 is passed
module _ (f : List ℕ) (trailer : Trailer) (h : Head) (w : SoundRows f trailer h) (j at n : ℕ) (l : j < nodes_of h) (q : at ≡ row_place h.place j) (a : n ≡ (row_at f at).number) where
  sound_at : SoundRow (case_of f trailer) (fact_of f h) (row_at f at)
  sound_at = (row_law (case_of f trailer) (fact_of f h) (row_at f at)).0 (row_is (case_of f trailer) f h.place j at q ∙ w.sound j l)

  pub number_at : n ≤ 9
  number_at = omega (arith, sound_at.number)

  pub rising_at : n < 8 → at + row_size ≤ length f → RisingAt f at n
  rising_at z o =
      let s : SetAt f at n = record { room = o; few = z; number = a } in
      record { set = s; rises = λ k y. sound_at.rising k (omega (arith, set_held s)) }
