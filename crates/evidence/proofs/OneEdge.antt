-- The edge rule for one edge, branch by branch.
use Prim.Native.Nat.{ℕ, ◌≤◌, ◌<◌}
use native.Mathlib.Omega.{arith}
use native.Mathlib.Decide.{ℕ_discrete}
use mathlib.Core.Path.{◌≡◌, refl, sym, ◌∙◌}
use mathlib.Core.Logic.{◌≢◌}
use mathlib.Core.Bool.{Bool, true, false, not, ◌&&◌, ◌||◌, or-true, or-false}
use mathlib.Core.List.{List}
use borrow.Author.Tests.{lt-leb, le-leb, eq-eqb, ne_eqb}
use lib.Dec.{eqb, leb}
use Rattle.paper.specs.Lists.{some}
use Rattle.paper.specs.declared.Trailer.{Trailer}
use Rattle.paper.specs.Files.{row_place, row_at, case_of}
use Rattle.paper.specs.Facts.{held, lacks, after_b, after_many, after_set, breaks}
use Rattle.evidence.specs.declared.Head.{Head}
use Rattle.evidence.specs.Stands.{Stands, fact_of}
use Rattle.evidence.specs.RowParts.{missing, forgets, breaks_at}
use Rattle.layout.specs.Packed.{Alike}
use Rattle.paper.proofs.RowLaws.{held_set}
use Rattle.evidence.proofs.Sets.{alike_holds}

module _ (f : List ℕ) (trailer : Trailer) (h : Head) (p : Stands f trailer h) (x i j s m : ℕ) (sj : s ≡ row_place h.place j) (b : m ≡ (row_at f s).number) where
  -- "u fetches b: row v is not 9"
  pub breaks_b : x ≡ h.block → eqb m 9 ≡ breaks_at f trailer h x i j
  unfolding breaks after_b after_many after_set
  breaks_b q = rw (eq-eqb _ _ (q ∙ p.block), ← sj, ← b) (sym (or-false (eqb m 9)))

  module _ (q : x ≢ h.block) (r n : ℕ) (ri : r ≡ row_place h.place i) (a : n ≡ (row_at f r).number) where
    other :
        breaks_at f trailer h x i j
        ≡ ((eqb n 8 && not (eqb m 8))
        || ((not (eqb n 9) && not (eqb n 8)) && (not (eqb m 8) && (leb 8 m || lacks (case_of f trailer) (fact_of f h) x (row_at f r) (row_at f s)))))
    unfolding breaks after_b after_many after_set
    other = rw (ne_eqb _ _ (λ z. q (z ∙ sym p.block)), ← ri, ← sj, ← a, ← b) refl

    -- "else row u is 9: nothing is required"
    pub breaks_not_since : n ≡ 9 → false ≡ breaks_at f trailer h x i j
    breaks_not_since e =
        let z : n ≢ 8 = omega arith in
        sym (other ∙ rw (eq-eqb n 9 e, ne_eqb n 8 z) refl)

    module _ (l : n ≢ 9) where
      -- "else row u is 8: row v is 8"
      pub breaks_many : n ≡ 8 → not (eqb m 8) ≡ breaks_at f trailer h x i j
      breaks_many e = sym (other ∙ rw (ne_eqb n 9 l, eq-eqb n 8 e) (or-false (not (eqb m 8))))

      module _ (k : n ≢ 8) where
        -- "else row v is 8, or a set"
        pub breaks_no_set : 8 ≤ m → not (eqb m 8) ≡ breaks_at f trailer h x i j
        breaks_no_set w =
            sym
            (other
            ∙ rw (ne_eqb n 9 l, ne_eqb n 8 k)
            (elim (ℕ_discrete m 8) [ yes z ↦ rw (eq-eqb m 8 z) refl | no z ↦ rw (ne_eqb m 8 z, le-leb 8 m w) refl ]))

        module _ (w : m < 8) where
          parts : breaks_at f trailer h x i j ≡ (some (missing (row_at f r) (row_at f s)) (held (row_at f r)) || forgets (case_of f trailer) (fact_of f h) x (row_at f s))
          unfolding lacks missing forgets
          parts =
              let z : m ≢ 8 = omega arith in
              other ∙ rw (ne_eqb n 9 l, ne_eqb n 8 k, ne_eqb m 8 z, lt-leb 8 m w) refl

          -- "and also u's block where u fetches one of b's set"
          pub breaks_lost : (c : Bool) → c ≡ forgets (case_of f trailer) (fact_of f h) x (row_at f s) → c ≡ true → true ≡ breaks_at f trailer h x i j
          breaks_lost c u z = sym (parts ∙ rw (sym u ∙ z) (or-true (some (missing (row_at f r) (row_at f s)) (held (row_at f r)))))

          -- row v is row u: of its blocks none can be lacking
          pub breaks_same :
              (c : Bool) → Alike (row_at f r) (row_at f s) → n < 8 → c ≡ forgets (case_of f trailer) (fact_of f h) x (row_at f s) → c ≡ breaks_at f trailer h x i j
          breaks_same c y o u =
              let e : held (row_at f s) ≡ n = held_set (row_at f s) (omega arith) ∙ sym y.number ∙ sym a in
              u ∙ sym (parts ∙ rw (held_set (row_at f r) (omega arith) ∙ sym a, alike_holds (row_at f r) (row_at f s) n (omega arith) e y) refl)

          -- "that holds row u's blocks"
          pub breaks_drops :
              (c d : Bool) → c ≡ forgets (case_of f trailer) (fact_of f h) x (row_at f s) → c ≡ false → n < 8 →
              d ≡ some (missing (row_at f r) (row_at f s)) n → d ≡ breaks_at f trailer h x i j
          breaks_drops c d u z o v = v ∙ sym (parts ∙ rw (sym u ∙ z, held_set (row_at f r) (omega arith) ∙ sym a) (or-false (some (missing (row_at f r) (row_at f s)) n)))
