-- The whole file put into the buffer, and the writer's answer by the verdicts that it came through.
use Rattle.std.specs.Prelude.{Result, Ok, Err}
use Prim.Native.Nat.{ℕ, ◌+◌, ◌*◌, ◌≤◌, ◌<◌}
use native.Mathlib.Omega.{arith}
use mathlib.Core.Path.{◌≡◌, refl, sym, ◌∙◌, ap, subst}
use mathlib.Core.List.{List, ◌++◌}
use lib.ListN.{length, drop, length-append}
use borrow.Author.Tests.{lt-ltb, le-ltb}
use Rattle.paper.specs.declared.Refusal.{Refusal}
use Rattle.paper.specs.declared.Trailer.{Trailer}
use Rattle.paper.specs.Answers.{Verdict, refuse}
use Rattle.paper.specs.Files.{facts_at}
use Rattle.paper.specs.Lists.{each}
use Rattle.paper.specs.OneFact.{words}
use Rattle.paper.specs.Verdicts.{shape_rules}
use Rattle.paper.specs.Writing.{FileContent, trailer_in, loop_in, rows_named, case_in, loop_bytes, trailer_bytes, fact_bytes, file_of, written_facts, write_verdict}
use Rattle.paper.proofs.RuleLaws.{accepted_on, refused_on}
use Rattle.paper.proofs.Sections.{length_words}
use Rattle.lists.specs.Listed.{content, Listed}
use Rattle.lists.specs.Listings.{listing_of}
use Rattle.lists.proofs.Wholes.{listing_refused, listing_on, listing_trailer, listing_whole}
use Rattle.lists.proofs.Same.{hands_rules}
use Rattle.puts.specs.Put.{Put}
use Rattle.puts.proofs.Putting.{put_whole}
use Rattle.writer.specs.Room.{of_loops, of_facts, FactsFit}
use Rattle.writer.specs.Answered.{room_rule, listed_verdict, Written}
use Rattle.writer.proofs.Sizes.{loops_length, facts_length, trailer_length}

module _ (t : Trailer) (nodes edges loops heads rows : List ℕ) (k : Listed (content t nodes edges loops heads rows) t) where
  pub facts_fit : FactsFit heads rows t.facts
  unfolding rows_named
  facts_fit = record { whole = omega (arith, k.heads); named = k.rows }

  -- the sections and the trailer, one after another
  pub file_parts :
      words nodes
      ++ (words edges
      ++ (each (λ j. loop_bytes t.version (loop_in (of_loops t.version loops) j)) t.loops ++ (each (fact_bytes (of_facts heads rows)) t.facts ++ trailer_bytes t)))
      ≡ file_of (content t nodes edges loops heads rows)
  unfolding file_of loop_in fact_bytes rows_named
  file_parts =
      ap
      (λ (s : Trailer). words nodes
      ++ (words edges
      ++ (each (λ j. loop_bytes t.version (loop_in (of_loops t.version loops) j)) s.loops ++ (each (fact_bytes (of_facts heads rows)) s.facts ++ trailer_bytes s))))
      k.is

  -- their lengths
  pub size_is : facts_at t + 6 * t.facts + 2 * length rows + 32 ≡ length (file_of (content t nodes edges loops heads rows))
  size_is =
      let facts = each (fact_bytes (of_facts heads rows)) t.facts in
      let ring = each (λ j. loop_bytes t.version (loop_in (of_loops t.version loops) j)) t.loops in
      let rest = facts ++ trailer_bytes t in
      let e : facts_at t + 6 * t.facts + 2 * length rows + 32 ≡ length (words nodes ++ (words edges ++ (ring ++ rest))) =
      omega (
        arith,
        length-append (words nodes) (words edges ++ (ring ++ rest)),
        length-append (words edges) (ring ++ rest),
        length-append ring rest,
        length-append facts (trailer_bytes t),
        length_words nodes,
        length_words edges,
        loops_length t.version (of_loops t.version loops) t.loops,
        facts_length (of_facts heads rows) t.facts,
        trailer_length t,
        facts_fit.named,
        k.nodes,
        k.edges,
      ) in
      e ∙ ap length file_parts

  pub size_of : (n : ℕ) → n ≡ facts_at t → n + 6 * t.facts + 2 * length rows + 32 ≡ length (file_of (content t nodes edges loops heads rows))
  size_of n e = ap (λ (m : ℕ). m + 6 * t.facts + 2 * length rows + 32) e ∙ size_is

module _ (c : FileContent) (out : List ℕ) (size : ℕ) (e : size ≡ length (file_of c)) where
  pub too_short : (x : Refusal) → length out < size → x ≡ refuse 20 0 → Written c out (room_rule c (length out)) (Err x) out
  too_short x h q =
      let z : length out < length (file_of c) = omega arith in
      rw (lt-ltb (length out) (length (file_of c)) z) (record { answer = ap Err q; bytes = refl })

  pub fitted : (to : ℕ) (after : List ℕ) → size ≤ length out → Put out 0 (file_of c) to after → Written c out (room_rule c (length out)) (Ok size) after
  fitted to after h p =
      let z : length (file_of c) ≤ length out = omega arith in
      let w = put_whole (record { room = omega arith }) p in
      rw (le-ltb (length out) (length (file_of c)) z)
      (record { answer = ap Ok e; bytes = w.1 ∙ ap (λ (n : ℕ). file_of c ++ drop n out) w.0 })

-- what the rules on the lists say: v
module _ (c : FileContent) (out : List ℕ) (v : Verdict) (a : v ≡ shape_rules (case_in c) (written_facts c (Ok tt))) where
  pub ruled_on : (r : Result ℕ Refusal) (after : List ℕ) → v ≡ Ok tt → Written c out (room_rule c (length out)) r after → Written c out (listed_verdict c (length out)) r after
  ruled_on r after e w =
      subst (λ (u : Verdict). Written c out u r after) (sym (accepted_on (λ rest. shape_rules (case_in c) (written_facts c rest)) (hands_rules c) (room_rule c (length out)) v a e)) w

  pub ruled_out : (x : Refusal) → v ≡ Err x → Written c out (listed_verdict c (length out)) (Err x) out
  ruled_out x e =
      subst (λ (u : Verdict). Written c out u (Err x) out)
      (sym (refused_on (λ rest. shape_rules (case_in c) (written_facts c rest)) (hands_rules c) (room_rule c (length out)) v a x e))
      (record { answer = refl; bytes = refl })

-- what rules 2 to 4 say: the numbers t, or a refusal
module _ (c : FileContent) where
  pub listing_out : (out : List ℕ) (x : Refusal) → listing_of c ≡ Err x → Written c out (write_verdict c (length out)) (Err x) out
  unfolding write_verdict
  listing_out out x h =
      subst (λ (u : Verdict). Written c out u (Err x) out) (sym (listing_refused c x h (listed_verdict c (length out)))) (record { answer = refl; bytes = refl })

  module _ (t : Trailer) (h : listing_of c ≡ Ok t) where
    same_content : content t c.nodes c.edges c.loops c.heads c.rows ≡ c
    unfolding trailer_in
    same_content = ap (λ (s : Trailer). content s c.nodes c.edges c.loops c.heads c.rows) (sym (listing_trailer c t h))

    pub listed_as : Listed (content t c.nodes c.edges c.loops c.heads c.rows) t
    unfolding trailer_in
    listed_as = subst (λ (s : Trailer). Listed (content s c.nodes c.edges c.loops c.heads c.rows) s) (listing_trailer c t h) (listing_whole c t h)

    pub listing_in : (out : List ℕ) (r : Result ℕ Refusal) (after : List ℕ) →
        Written (content t c.nodes c.edges c.loops c.heads c.rows) out (listed_verdict (content t c.nodes c.edges c.loops c.heads c.rows) (length out)) r after →
        Written c out (write_verdict c (length out)) r after
    unfolding write_verdict
    listing_in out r after w =
        subst (λ (u : Verdict). Written c out u r after) (sym (listing_on c t h (listed_verdict c (length out))))
        (subst (λ (d : FileContent). Written d out (listed_verdict d (length out)) r after) same_content w)
