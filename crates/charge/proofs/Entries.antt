-- "Its entries the lesser of W and that outer number": the header visits of the next loop out are its header's count, and 1 where no loop is around.
use Prim.Native.Nat.{ℕ, suc, ◌-◌, ◌≤◌, ◌<◌}
use native.Mathlib.Omega.{arith}
use native.Mathlib.Decide.{ℕ_discrete, dec_lt}
use mathlib.Core.Path.{◌≡◌, refl, sym, ◌∙◌, ap}
use mathlib.Core.Logic.{◌≢◌}
use mathlib.Core.Bool.{Bool}
use mathlib.Core.List.{List}
use borrow.Author.Tests.{eq-eqb, ne_eqb}
use lib.Dec.{eqb}
use lib.ListN.{get_or}
use Rattle.paper.specs.declared.Loop.{Loop}
use Rattle.paper.specs.declared.Trailer.{Trailer}
use Rattle.paper.specs.Machines.{none}
use Rattle.paper.specs.Cases.{Fact, Case, unlimited, inside, range_of}
use Rattle.paper.specs.Graphs.{count, outer, at_most, entries_of, entries}
use Rattle.paper.specs.Files.{loop_at, fact_at, case_of}
use Rattle.paper.proofs.Meaning.{In}
use Rattle.paper.proofs.Says.{says_true, says_false}
use Rattle.paper.proofs.GraphLaws.{inside_says}
use Rattle.paper.proofs.BoundLaws.{cond_low}
use Rattle.paper.proofs.Nests.{Around, outer_next, outer_alone, outer_low}
use Rattle.paper.specs.Ceilings.{most_count}
use Rattle.charge.specs.NextOut.{next_out, Outers}
use Rattle.charge.specs.ReadyFile.{Lawful, Ready}
use Rattle.charge.specs.Tables.{head_of}
use Rattle.charge.specs.declared.heads.Head.{Head}
use Rattle.charge.proofs.Last.{last_low, last_is, last_none}

module _ (e : Case) (g : Lawful e) (j : ℕ) (hj : j < e.loops) where
  fits : (i : ℕ) → i < e.loops → (e.loop i).first ≤ (e.loop i).last
  fits i h = (g.fits i h).0

  -- the loops with loop j's header
  abbrev has : ℕ → Bool
  has x = inside (e.loop x) (e.loop j).first

  -- a loop strictly around loop j comes before it and has its header
  around_before : (x : ℕ) → x < e.loops → Around (e.loop j) (e.loop x) → (x < j) × In (e.loop x) (e.loop j).first
  around_before x hx a =
      let l : x < j =
      elim (dec_lt x j) [
        | yes l ↦ l
        | no l ↦
            elim (ℕ_discrete j x) [
              | yes q ↦ absurd (omega (arith, a.0, ap (λ (i : ℕ). (e.loop i).first) q))
              | no q ↦ absurd (omega (arith, a.0, g.rises j x (omega arith) hx))
            ]
      ] in
      (l, (omega (arith, a.0), omega (arith, a.1, fits j hj)))

  -- where the next loop out is c - 1, none from c on is around
  none_later : (c : ℕ) → next_out e j ≡ c → (x : ℕ) → c ≤ x → x < e.loops → ¬ Around (e.loop j) (e.loop x)
  none_later c q x l hx a =
      let b = around_before x hx a in
      (says_false (inside_says (e.loop x) (e.loop j).first)).0 (last_none has j x (omega (arith, q)) b.0) b.1

  -- "the header visits of the next loop out": i is the last loop that has this header
  pub next_count : (i : ℕ) → next_out e j ≡ suc i → (i < j) × (outer e (e.loop j) ≡ count e (e.loop i).first)
  next_count i q =
      let l : i < j = omega (arith, last_low has j, q) in
      let here : In (e.loop i) (e.loop j).first = says_true (inside_says _ _) (last_is has j i q) in
      let around : Around (e.loop j) (e.loop i) = (g.rises i j l hj, g.nested i j l hj here.1) in
      (l, outer_next e fits g.rises g.nested i j (omega arith) hj around (λ x a b. none_later (suc i) q x a b))

  -- "1 outside all loops"
  pub next_none : next_out e j ≡ 0 → outer e (e.loop j) ≡ 1
  next_none q = outer_alone e fits g.rises g.nested j (λ x hx. none_later 0 q x (omega arith) hx)

  -- what is around a loop is no larger than a count, and W makes it no larger
  loop_low : entries_of e (e.loop j) ≤ most_count
  unfolding entries_of at_most
  loop_low =
      let low = outer_low e fits g.rises g.nested most_count (omega arith) (λ i h. g.counts (e.loop i).first (omega (arith, (g.fits i h).0, (g.fits i h).1))) j hj in
      cond_low (eqb (e.loop j).visits unlimited) low (omega arith)

-- E of a fact whose scope is one of the loops or the whole graph
pub entries_low : (e : Case) → Lawful e → (t : Fact) → (t.scope ≢ none → t.scope < e.loops) → entries e t ≤ most_count
unfolding entries
entries_low e g t h =
    elim (ℕ_discrete t.scope none) [
      | yes q ↦ rw (eq-eqb t.scope none q) (omega arith)
      | no q ↦ rw (ne_eqb t.scope none q) (loop_low e g t.scope (h q))
    ]

-- what the code reads: the table of the next loops out, and the counts
module _ (f : List ℕ) (trailer : Trailer) (counts outers : List ℕ) (r : Ready f trailer counts) (o : Outers (case_of f trailer) trailer.loops outers) (w : ℕ) (hw : w < trailer.loops) where
  pub outer_none : get_or outers w 0 ≡ 0 → 1 ≡ outer (case_of f trailer) (loop_at f trailer w)
  unfolding case_of
  outer_none q = sym (next_none (case_of f trailer) r.lawful w hw (sym (o.at w hw) ∙ q))

  module _ (some : get_or outers w 0 ≢ 0) where
    next_loop : (get_or outers w 0 - 1 < w) × (outer (case_of f trailer) (loop_at f trailer w) ≡ count (case_of f trailer) (loop_at f trailer (get_or outers w 0 - 1)).first)
    unfolding case_of
    next_loop =
        let z : get_or outers w 0 ≡ suc (get_or outers w 0 - 1) = omega arith in
        next_count (case_of f trailer) r.lawful w hw (get_or outers w 0 - 1) (sym (o.at w hw) ∙ z)

    pub next_low : get_or outers w 0 - 1 < trailer.loops
    next_low = omega (arith, next_loop.0)

    pub next_header :
        (l : Loop) → l ≡ loop_at f trailer (get_or outers w 0 - 1)
        → (l.first < trailer.nodes) × (get_or counts l.first 0 ≡ outer (case_of f trailer) (loop_at f trailer w))
    unfolding case_of
    next_header l el =
        let s = r.lawful.fits (get_or outers w 0 - 1) next_low in
        let h : (loop_at f trailer (get_or outers w 0 - 1)).first < trailer.nodes = omega (arith, s.0, s.1) in
        rw el (h, r.counted.at (loop_at f trailer (get_or outers w 0 - 1)).first h ∙ sym next_loop.1)

-- E of the fact at p, of which h was read
module _ (f : List ℕ) (trailer : Trailer) (p : ℕ) (h : Head) (eh : h ≡ head_of f trailer p) where
  -- "the whole graph with one entry"
  pub entries_whole : h.scope ≡ none → 1 ≡ entries (case_of f trailer) (fact_at f p)
  unfolding entries head_of
  entries_whole q = rw (eq-eqb _ none (sym (ap (λ (k : Head). k.scope) eh) ∙ q)) refl

  -- the lesser of W and what is around the loop
  pub entries_loop :
      (n : ℕ) → h.scope ≢ none → n ≡ outer (case_of f trailer) (loop_at f trailer h.scope) → at_most h.range.visits n ≡ entries (case_of f trailer) (fact_at f p)
  unfolding entries entries_of head_of range_of case_of
  entries_loop n q en = rw (en, eh, ne_eqb (fact_at f p).scope none (λ z. q (ap (λ (k : Head). k.scope) eh ∙ z))) refl
