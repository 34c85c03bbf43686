-- The loop that judges each fact into the table.
use Rattle.std.specs.Prelude.{Result, Ok, Err, Option, Some}
use Prim.Native.Nat.{ℕ, suc, ◌+◌, ◌-◌, ◌*◌, ◌≤◌, ◌<◌}
use native.Mathlib.Omega.{arith}
use native.Mathlib.Numerals.{add-one}
use mathlib.Core.Path.{◌≡◌, refl, sym, ◌∙◌, ap, subst}
use mathlib.Core.List.{List, [], ◌∷◌}
use lib.ListN.{length, take, length-append}
use lib.Seq.{take-append_seam}
use Rattle.paper.specs.declared.Refusal.{Refusal}
use Rattle.paper.specs.declared.Trailer.{Trailer}
use Rattle.paper.specs.declared.Previous.{Previous}
use Rattle.paper.specs.Facts.{none_previous}
use Rattle.paper.specs.Files.{end_at, facts_at, fact_end}
use Rattle.paper.specs.Known.{Laid}
use Rattle.paper.specs.Salvaging.{next_place, turn_of, judged_from, judged, kept_of, dropped_of, listed, fact_part, fact_parts}
use Rattle.paper.specs.Verdicts.{turn_rules}
use Rattle.paper.proofs.Spaces.{length_spaced}
use Rattle.paper.proofs.VerdictLaws.{end_after}
use Rattle.facts.specs.declared.Kept.{Kept}
use Rattle.facts.specs.Turns.{verdict_of, Told}
use Rattle.puts.specs.Put.{Put}
use Rattle.puts.proofs.Putting.{put_whole, Left, left_start, left_more, left_end}
use Rattle.salvager.specs.Sieve.{kept_by, dropped_by, spans_of, Sieved}
use Rattle.salvager.proofs.Judged.{keeps, drops_none, keeps_none, drops}

pub length_listed : (l : List Refusal) → length (listed l) ≡ 3 * length l
length_listed [] = refl
length_listed (r ∷ l) = omega (arith, length_listed l)

module _ (f : List ℕ) (trailer : Trailer) where
  length_spans : (l : List ℕ) → length (spans_of f trailer l) ≡ 2 * length l
  length_spans [] = refl
  length_spans (p ∷ l) = omega (arith, length_spans l)

  pub length_fact : (p : ℕ) → length (fact_part f trailer p) ≡ fact_end f trailer p - p
  length_fact p = length_spaced _ 1 p (fact_end f trailer p - p)

  -- It is the turn of fact i, which stands at p, after the last one kept: the table has what came of the others, and the facts that are left decide what is still to come.
  module _ (spans₀ whys₀ : List ℕ) where
    pub record Sifting (spans whys : List ℕ) (kept dropped size : ℕ) (previous : Option Previous) (p i : ℕ) : Type 0 where
      pub each : kept + dropped ≡ i
      pub room : p ≤ end_at f
      pub low : facts_at trailer + size ≤ p
      pub spans_left : Left spans₀ 0 (spans_of f trailer (kept_by f trailer)) spans (2 * kept) (spans_of f trailer (kept_of (judged_from f trailer (trailer.facts - i) i previous p)))
      pub whys_left : Left whys₀ 0 (listed (dropped_by f trailer)) whys (3 * dropped) (listed (dropped_of (judged_from f trailer (trailer.facts - i) i previous p)))
      pub size_left : size + length (fact_parts f trailer (kept_of (judged_from f trailer (trailer.facts - i) i previous p))) ≡ length (fact_parts f trailer (kept_by f trailer))

    pub sift_start : Laid f trailer → (p : ℕ) → p ≡ facts_at trailer → Sifting spans₀ whys₀ 0 0 0 none_previous p 0
    unfolding judged
    sift_start laid p e =
        let z : trailer.facts - 0 ≡ trailer.facts = omega arith in
        record {
          each = omega arith;
          room = omega (arith, laid.room);
          low = omega arith;
          spans_left = rw (z, e) left_start;
          whys_left = rw (z, e) left_start;
          size_left = rw (z, e) (omega arith);
        }

    module _ {spans whys : List ℕ} {kept dropped size : ℕ} {previous : Option Previous} {p i : ℕ} (s : Sifting spans whys kept dropped size previous p i) where
      module _ (h : i < trailer.facts) (r : Result Kept Refusal) (told : Told f trailer p (turn_rules f trailer i previous p) r) where
        one_more : trailer.facts - i ≡ suc (trailer.facts - (i + 1))
        one_more = omega arith

        module _ (k : Kept) (e : r ≡ Ok k) where
          accepted : turn_of f trailer i previous p ≡ Ok tt
          accepted = sym told.verdict ∙ ap verdict_of e

          -- the list that is left begins with the fact at p
          rest_kept : kept_of (judged_from f trailer (trailer.facts - i) i previous p) ≡ p ∷ kept_of (judged_from f trailer (trailer.facts - (i + 1)) (i + 1) (Some k.previous) k.end)
          rest_kept =
              let n = told.next k e in
              ap (λ (m : ℕ). kept_of (judged_from f trailer m i previous p)) one_more
              ∙ keeps f trailer i previous p accepted (trailer.facts - (i + 1))
              ∙ rw (n.previous_is, n.end_is, add-one i) refl

          rest_dropped : dropped_of (judged_from f trailer (trailer.facts - i) i previous p) ≡ dropped_of (judged_from f trailer (trailer.facts - (i + 1)) (i + 1) (Some k.previous) k.end)
          rest_dropped =
              let n = told.next k e in
              ap (λ (m : ℕ). dropped_of (judged_from f trailer m i previous p)) one_more
              ∙ drops_none f trailer i previous p accepted (trailer.facts - (i + 1))
              ∙ rw (n.previous_is, n.end_is, add-one i) refl

          pub ends_later : p ≤ k.end
          ends_later = omega (arith, (told.next k e).end_is, end_after f trailer p)

          pub grows : size + (k.end - p) ≤ k.end
          grows = omega (arith, s.low, ends_later)

          pub sift_keep : (m : List ℕ) → Put spans (2 * kept) (p ∷ k.end ∷ []) (2 * kept + 2) m →
              Sifting m whys (kept + 1) dropped (size + (k.end - p)) (Some k.previous) k.end (i + 1)
          sift_keep m w =
              let n = told.next k e in
              let a : 2 * (kept + 1) ≡ 2 * kept + 2 = omega arith in
              let rest = kept_of (judged_from f trailer (trailer.facts - (i + 1)) (i + 1) (Some k.previous) k.end) in
              let l : Left spans₀ 0 (spans_of f trailer (kept_by f trailer)) spans (2 * kept) (p ∷ fact_end f trailer p ∷ spans_of f trailer rest) = rw rest_kept at s.spans_left in
              let o : size + length (fact_parts f trailer (p ∷ rest)) ≡ length (fact_parts f trailer (kept_by f trailer)) = rw rest_kept at s.size_left in
              record {
                each = omega (arith, s.each);
                room = n.room;
                low = omega (arith, s.low, ends_later);
                spans_left = rw a (left_more w (subst (λ (x : ℕ). Left spans₀ 0 (spans_of f trailer (kept_by f trailer)) spans (2 * kept) (p ∷ x ∷ spans_of f trailer rest)) (sym n.end_is) l));
                whys_left = rw rest_dropped at s.whys_left;
                size_left = omega (arith, o, length-append (fact_part f trailer p) (fact_parts f trailer rest), length_fact p, n.end_is);
              }

        module _ (x : Refusal) (e : r ≡ Err x) where
          refused : turn_of f trailer i previous p ≡ Err x
          refused = sym told.verdict ∙ ap verdict_of e

          pub sift_drop : (m : List ℕ) → Put whys (3 * dropped) (listed (x ∷ [])) (3 * dropped + 3) m →
              (q : ℕ) → q ≡ next_place f trailer p → p ≤ q → q ≤ end_at f →
              Sifting spans m kept (dropped + 1) size previous q (i + 1)
          sift_drop m w q z later room =
              let a : 3 * (dropped + 1) ≡ 3 * dropped + 3 = omega arith in
              let kept-rest : kept_of (judged_from f trailer (trailer.facts - i) i previous p) ≡ kept_of (judged_from f trailer (trailer.facts - (i + 1)) (i + 1) previous q) =
              ap (λ (m : ℕ). kept_of (judged_from f trailer m i previous p)) one_more
              ∙ keeps_none f trailer i previous p x refused (trailer.facts - (i + 1))
              ∙ rw (z, add-one i) refl in
              let dropped-rest : dropped_of (judged_from f trailer (trailer.facts - i) i previous p) ≡ x ∷ dropped_of (judged_from f trailer (trailer.facts - (i + 1)) (i + 1) previous q) =
              ap (λ (m : ℕ). dropped_of (judged_from f trailer m i previous p)) one_more
              ∙ drops f trailer i previous p x refused (trailer.facts - (i + 1))
              ∙ rw (z, add-one i) refl in
              record {
                each = omega (arith, s.each);
                room = room;
                low = omega (arith, s.low);
                spans_left = rw kept-rest at s.spans_left;
                whys_left = rw a (left_more w (rw dropped-rest at s.whys_left));
                size_left = rw kept-rest at s.size_left;
              }

      -- after the last fact nothing is left
      module _ (laid : Laid f trailer) (long : 512 ≤ length spans₀) (wide : 768 ≤ length whys₀) (h : i ≡ trailer.facts) where
        none_left : trailer.facts - i ≡ 0
        none_left = omega arith

        spans_put : Put spans₀ 0 (spans_of f trailer (kept_by f trailer)) (2 * kept) spans
        unfolding judged_from
        spans_put = left_end (rw none_left at s.spans_left)

        whys_put : Put whys₀ 0 (listed (dropped_by f trailer)) (3 * dropped) whys
        unfolding judged_from
        whys_put = left_end (rw none_left at s.whys_left)

        size_done : size ≡ length (fact_parts f trailer (kept_by f trailer))
        unfolding judged_from
        size_done = let o : size + 0 ≡ length (fact_parts f trailer (kept_by f trailer)) = rw none_left at s.size_left in omega arith

        pub sift_end : Sieved f trailer (record { kept = kept; dropped = dropped; size = size }) spans whys
        sift_end =
            let k : 2 * kept ≡ 0 + length (spans_of f trailer (kept_by f trailer)) = spans_put.place in
            let d : 3 * dropped ≡ 0 + length (listed (dropped_by f trailer)) = whys_put.place in
            let few : kept + dropped ≤ 256 = omega (arith, s.each, laid.facts_high) in
            let spans-is = put_whole (record { room = omega arith }) spans_put in
            let whys-is = put_whole (record { room = omega arith }) whys_put in
            record {
              kept = omega (arith, length_spans (kept_by f trailer));
              dropped = omega (arith, length_listed (dropped_by f trailer));
              size = size_done;
              within = omega (arith, s.low, s.room);
              spans_room = omega (arith, s.spans_left.kept);
              whys_room = omega (arith, s.whys_left.kept);
              spans_are = ap (take (2 * kept)) spans-is.1 ∙ rw spans-is.0 (take-append_seam _ _);
              whys_are = ap (take (3 * dropped)) whys-is.1 ∙ rw whys-is.0 (take-append_seam _ _);
            }
