-- The facts that are kept, put one after another by the table; and the trailer.
use Prim.Native.Nat.{ℕ, zero, suc, ◌+◌, ◌-◌, ◌*◌, ◌/◌, ◌%◌, ◌^◌, ◌≤◌, ◌<◌}
use native.Mathlib.Omega.{arith}
use native.Mathlib.Numerals.{add-one}
use mathlib.Core.Path.{◌≡◌, refl, sym, ◌∙◌, ap, subst}
use mathlib.Core.List.{List, [], ◌∷◌, ◌++◌}
use lib.ListN.{length, get_or, take, drop, length-append, length-take, length-drop}
use lib.Seq.{drop-cons, get_or-take, drop-drop, take_all}
use Rattle.std.specs.Int.{w16, to_le_bytes}
use Rattle.paper.specs.declared.Trailer.{Trailer}
use Rattle.paper.specs.Facts.{none_previous}
use Rattle.paper.specs.Files.{end_at, facts_at, fact_end}
use Rattle.paper.specs.OneFact.{words, trailer_with}
use Rattle.paper.specs.Salvaging.{judged, fact_part, fact_parts}
use Rattle.paper.proofs.VerdictLaws.{end_after}
use Rattle.puts.specs.Put.{Fits, Put}
use Rattle.puts.proofs.Putting.{Left, left_more}
use Rattle.salvager.specs.declared.Sifted.{Sifted}
use Rattle.salvager.specs.Sieve.{kept_by, spans_of, Sieved}
use Rattle.salvager.proofs.Copied.{part_is}
use Rattle.salvager.proofs.Judged.{kept_whole}

module _ (f : List ℕ) (trailer : Trailer) where
  span_place : (l : List ℕ) (j : ℕ) → j < length l → get_or (spans_of f trailer l) (2 * j) 0 ≡ get_or l j 0
  span_place [] j h = absurd (omega arith)
  span_place (p ∷ l) zero h = refl
  span_place (p ∷ l) (suc j) h =
      let e : 2 * suc j ≡ suc (suc (2 * j)) = omega arith in
      rw e (span_place l j (omega arith))

  span_end : (l : List ℕ) (j : ℕ) → j < length l → get_or (spans_of f trailer l) (2 * j + 1) 0 ≡ fact_end f trailer (get_or l j 0)
  span_end [] j h = absurd (omega arith)
  span_end (p ∷ l) zero h = refl
  span_end (p ∷ l) (suc j) h =
      let e : 2 * suc j + 1 ≡ suc (suc (2 * j + 1)) = omega arith in
      rw e (span_end l j (omega arith))

  -- Of the facts that are kept the first j are put: the others are left.
  pub record Placed (s : Sifted) (old : List ℕ) (at : ℕ) (l : List ℕ) (to j : ℕ) : Type 0 where
    pub left : Left old at (fact_parts f trailer (kept_by f trailer)) l to (fact_parts f trailer (drop j (kept_by f trailer)))

  module _ {s : Sifted} {spans whys : List ℕ} (t : Sieved f trailer s spans whys) where
    -- the fact that is kept after j others
    abbrev fact : ℕ → ℕ
    fact j = get_or (kept_by f trailer) j 0

    module _ (j : ℕ) (h : j < s.kept) where
      place_is : get_or spans (2 * j) 0 ≡ fact j
      place_is =
          sym (get_or-take (2 * s.kept) spans (2 * j) 0 (omega arith))
          ∙ ap (λ (l : List ℕ). get_or l (2 * j) 0) t.spans_are
          ∙ span_place (kept_by f trailer) j (omega (arith, t.kept))

      end_is : get_or spans (2 * j + 1) 0 ≡ fact_end f trailer (fact j)
      end_is =
          sym (get_or-take (2 * s.kept) spans (2 * j + 1) 0 (omega arith))
          ∙ ap (λ (l : List ℕ). get_or l (2 * j + 1) 0) t.spans_are
          ∙ span_end (kept_by f trailer) j (omega (arith, t.kept))

      pub span_rises : get_or spans (2 * j) 0 ≤ get_or spans (2 * j + 1) 0
      span_rises = omega (arith, place_is, end_is, end_after f trailer (fact j))

      pub span_within : get_or spans (2 * j + 1) 0 ≤ end_at f
      unfolding judged
      span_within = omega (arith, end_is, kept_whole f trailer trailer.facts 0 none_previous (facts_at trailer) j (omega (arith, t.kept)))

      -- the fact's bytes in the file
      abbrev cut : List ℕ
      cut = take (get_or spans (2 * j + 1) 0 - get_or spans (2 * j) 0) (drop (get_or spans (2 * j) 0) f)

      fact_is : cut ≡ fact_part f trailer (fact j)
      fact_is =
          sym (part_is f (get_or spans (2 * j + 1) 0 - get_or spans (2 * j) 0) (get_or spans (2 * j) 0) (omega (arith, span_rises, span_within)))
          ∙ rw (place_is, end_is) refl

      next_fact : fact_parts f trailer (drop j (kept_by f trailer))
          ≡ cut ++ fact_parts f trailer (drop (j + 1) (kept_by f trailer))
      next_fact =
          ap (fact_parts f trailer) (drop-cons (kept_by f trailer) j 0 (omega (arith, t.kept)))
          ∙ rw (fact_is, add-one j) refl

    module _ {old : List ℕ} {at : ℕ} where
      module _ {l : List ℕ} {to j : ℕ} (w : Placed s old at l to j) where
        pub placed_fits : at + s.size ≤ length old → (h : j < s.kept) → Fits l to (cut j h)
        placed_fits room h =
            let rest = fact_parts f trailer (drop (j + 1) (kept_by f trailer)) in
            record { room = omega (arith, t.size, w.left.place, w.left.kept, ap length (next_fact j h), length-append (cut j h) rest) }

        pub placed_more : {m : List ℕ} {next : ℕ} (h : j < s.kept) → Put l to (cut j h) next m → Placed s old at m next (j + 1)
        placed_more h p = record { left = left_more p (rw (next_fact j h) at w.left) }

-- the parts of the trailer that are put, where e is its place
pub trailer_parts : (f : List ℕ) (n e : ℕ) → e ≡ end_at f → 32 ≤ length f → n < 2 ^ 16 →
    take (e + 22 - e) (drop e f) ++ (to_le_bytes w16 n ++ take (length f - (e + 22 + 2)) (drop (e + 22 + 2) f)) ≡ trailer_with f n
unfolding words
trailer_parts f n e q h small =
    let a : e + 22 - e ≡ 22 = omega arith in
    let z : e + 22 + 2 ≡ e + 24 = omega arith in
    let high : n / 256 % 256 ≡ n / 256 = omega arith in
    let b : take (length f - (e + 24)) (drop (e + 24) f) ≡ drop 24 (drop e f) =
    take_all (length f - (e + 24)) (drop (e + 24) f) (omega (arith, length-drop (e + 24) f)) ∙ sym (drop-drop 24 e f) in
    rw (a, z, b, high, q) refl

pub trailer_size_lem : (f : List ℕ) (n : ℕ) → 32 ≤ length f → length (trailer_with f n) ≡ 32
unfolding words
trailer_size_lem f n h = omega (arith, length-append (take 22 (drop (end_at f) f)) (words (n ∷ []) ++ drop 24 (drop (end_at f) f)), length-append (words (n ∷ [])) (drop 24 (drop (end_at f) f)), length-take 22 (drop (end_at f) f), length-drop (end_at f) f, length-drop 24 (drop (end_at f) f))

pub trailer_put : (f : List ℕ) (n e : ℕ) → e ≡ end_at f → 32 ≤ length f → n < 2 ^ 16 → {l m : List ℕ} {at to : ℕ} →
    Put l at (take (e + 22 - e) (drop e f) ++ (to_le_bytes w16 n ++ take (length f - (e + 22 + 2)) (drop (e + 22 + 2) f))) to m → Put l at (trailer_with f n) to m
trailer_put f n e q h small {l} {m} {at} {to} p = subst (λ (text : List ℕ). Put l at text to m) (trailer_parts f n e q h small) p
