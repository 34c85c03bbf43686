-- The trailer, both ways: written, it says what was written; read and written again, it stands where it stood.
use Prim.Native.Nat.{ℕ, suc, ◌+◌, ◌≤◌, ◌<◌}
use native.Mathlib.Omega.{arith}
use mathlib.Core.Path.{◌≡◌, refl, sym, ◌∙◌, ap, subst}
use mathlib.Core.Bool.{false}
use mathlib.Core.List.{List, ◌∷◌}
use lib.ListN.{length, get_or}
use lib.Seq.{ext_get_or}
use borrow.Author.Tests.{eq-eqb, eqb-true, le-ltb, not-false}
use Rattle.paper.specs.declared.Trailer.{Trailer}
use Rattle.paper.specs.Lists.{spaced}
use Rattle.paper.specs.Demands.{Bytes}
use Rattle.paper.specs.Records as Records
use Rattle.paper.specs.Files.{u8_at, u16_at, u32_at, end_at, letters, trailer_of, bad_letter, bad_letters, bad_offsets, edges_at, loops_at, facts_at}
use Rattle.paper.specs.Writing.{trailer_numbers, trailer_bytes, record_bytes}
use Rattle.paper.proofs.Least.{none_some, some_none}
use Rattle.paper.proofs.Says.{neither}
use Rattle.paper.proofs.LayoutTests.{offsets_at}
use Rattle.paper.proofs.Parts.{Stands, stands_move}
use Rattle.paper.proofs.Spaces.{length_spaced, get_d_spaced}
use Rattle.contents.proofs.Fields.{u8_number, u16_number, u32_number, record_at, record_is, record_stands}

-- the letters and the whole trailer, as the rules 2 and 5 and the case read them
abbrev letters_read : List ℕ → List ℕ
letters_read f = spaced (u8_at f) 1 (end_at f + Records.letters_field) (length letters)

abbrev trailer_read : List ℕ → List ℕ
trailer_read f =
    let p = end_at f in
    u32_at f p ∷ u32_at f (p + Records.edges_offset) ∷ u32_at f (p + Records.loops_offset) ∷ u32_at f (p + Records.facts_offset)
    ∷ u16_at f (p + Records.nodes_field) ∷ u16_at f (p + Records.edges_field) ∷ u16_at f (p + Records.loops_field) ∷ u16_at f (p + Records.facts_field)
    ∷ u8_at f (p + Records.policy_field) ∷ u8_at f (p + Records.ways_field) ∷ u8_at f (p + Records.sets_field) ∷ u8_at f (p + Records.version_field)
    ∷ letters_read f

-- they are read where the record has its fields
read_record : (f : List ℕ) → record_at f (end_at f) 0 Records.trailer_fields ≡ trailer_read f
unfolding spaced
read_record f =
    let p = end_at f in
    let a : p + 0 ≡ p = omega arith in
    let b : p + 28 + 1 ≡ p + 29 = omega arith in
    let c : p + 29 + 1 ≡ p + 30 = omega arith in
    let d : p + 30 + 1 ≡ p + 31 = omega arith in
    rw (a, b, c, d) (simp (u8_number f, u16_number f, u32_number f) refl)

pub length_trailer : (t : Trailer) → length (trailer_bytes t) ≡ Records.trailer_size
unfolding trailer_bytes
length_trailer t = refl

module _ (f : List ℕ) (t : Trailer) (h : Stands f (end_at f) (trailer_bytes t)) where
  trailer_is : trailer_read f ≡ trailer_numbers t
  unfolding trailer_bytes
  trailer_is =
      let here : end_at f ≡ end_at f + 0 = omega arith in
      sym (read_record f) ∙ record_is f (end_at f) 0 Records.trailer_fields (trailer_numbers t) refl (stands_move f _ here h)

  -- field i of it
  field : (i : ℕ) → get_or (trailer_read f) i 0 ≡ get_or (trailer_numbers t) i 0
  field i = ap (λ (l : List ℕ). get_or l i 0) trailer_is

  pub trailer_read_lem : trailer_of f ≡ t
  unfolding trailer_of
  trailer_read_lem = rw (field 4, field 5, field 6, field 7, field 8, field 9, field 10, field 11) refl

  letter_is : (k : ℕ) → k < length letters → bad_letter f k ≡ false
  unfolding bad_letter
  letter_is k l =
      let e : u8_at f (end_at f + Records.letters_field + k) ≡ get_or letters k 0
      = ap (λ (p : ℕ). u8_at f p) (omega arith)
      ∙ sym (get_d_spaced (u8_at f) 1 (end_at f + Records.letters_field) (length letters) k l)
      ∙ field (suc (suc (suc (suc (suc (suc (suc (suc (suc (suc (suc (suc k)))))))))))) in
      rw (eq-eqb _ _ e) refl

  pub letters_read_lem : Records.bad_version t.version ≡ false → bad_letters f ≡ false
  unfolding bad_letters
  letters_read_lem known = rw (some_none (bad_letter f) (length letters) letter_is, field 11) known

  pub offsets_read : facts_at t ≤ end_at f → bad_offsets f t ≡ false
  unfolding bad_offsets
  offsets_read l =
      let nodes : u32_at f (end_at f) ≡ 0 = omega (arith, field 0) in
      let edges : u32_at f (end_at f + Records.edges_offset) ≡ edges_at t = omega (arith, field 1) in
      let loops : u32_at f (end_at f + Records.loops_offset) ≡ loops_at t = omega (arith, field 2) in
      let facts : u32_at f (end_at f + Records.facts_offset) ≡ facts_at t = omega (arith, field 3) in
      rw (nodes, eq-eqb _ _ edges, eq-eqb _ _ loops, eq-eqb _ _ facts, le-ltb _ _ l) refl

module _ (f : List ℕ) (offsets : bad_offsets f (trailer_of f) ≡ false) (marks : bad_letters f ≡ false) where
  letters_at : letters_read f ≡ letters
  unfolding bad_letters bad_letter
  letters_at =
      let n = length_spaced (u8_at f) 1 (end_at f + Records.letters_field) (length letters) in
      ext_get_or 0 _ _ n
      (λ k l.
      get_d_spaced (u8_at f) 1 (end_at f + Records.letters_field) (length letters) k (omega arith)
      ∙ ap (λ (p : ℕ). u8_at f p) (omega arith)
      ∙ eqb-true _ _ (not-false _ (none_some _ (length letters) (neither _ _ marks).0 k (omega arith))))

  -- what rules 2 and 5 say of the trailer that is read
  trailer_says : trailer_read f ≡ trailer_numbers (trailer_of f)
  unfolding trailer_of
  trailer_says = let o = offsets_at f (trailer_of f) offsets in rw (o.nodes, o.edges, o.loops, o.facts, letters_at) refl

  pub trailer_stands : Bytes f → Stands f (end_at f) (trailer_bytes (trailer_of f))
  unfolding trailer_bytes
  trailer_stands b =
      let here : end_at f + 0 ≡ end_at f = omega arith in
      stands_move f _ here
      (subst (λ (l : List ℕ). Stands f (end_at f + 0) (record_bytes Records.trailer_fields l)) (read_record f ∙ trailer_says) (record_stands f (end_at f) b 0 Records.trailer_fields))
