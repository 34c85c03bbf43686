-- Any file that passes the layout rules comes out again byte for byte when its content is written.
use Rattle.std.specs.Prelude.{Ok}
use Prim.Native.Nat.{ℕ, zero, suc, ◌+◌, ◌*◌, ◌≤◌, ◌<◌}
use native.Mathlib.Omega.{arith}
use mathlib.Core.Path.{◌≡◌, refl, sym, ◌∙◌, ap, subst}
use mathlib.Core.Bool.{false, not}
use mathlib.Core.List.{List, ◌++◌}
use lib.ListN.{length, get_or, length-append}
use lib.Seq.{ext_get_or}
use borrow.Author.Tests.{eq-eqb}
use Rattle.paper.specs.declared.Trailer.{Trailer}
use Rattle.paper.specs.Lists.{each, spaced}
use Rattle.paper.specs.Demands.{Bytes}
use Rattle.paper.specs.Cases.{size, scope_of}
use Rattle.paper.specs.Records.{loop_fields, loop_size}
use Rattle.paper.specs.Files.{u16_at, end_at, trailer_of, bad_cache, edges_at, loops_at, loop_place, facts_at, head_end, loop_at, fact_end, fact_place, case_of}
use Rattle.paper.specs.OneFact.{words, head_bytes}
use Rattle.paper.specs.Writing.{FileContent, per_loop, loop_in, rows_before, case_in, record_bytes, loop_values, loop_bytes, trailer_bytes, rows_in, fact_bytes, file_of, words_at, rows_at, row_numbers, content_by, content_of, layout_verdict, bad_rows_named, write_verdict}
use Rattle.paper.proofs.LayoutTests.{offsets_at}
use Rattle.paper.proofs.SameGraphs.{shape_same}
use Rattle.paper.proofs.Parts.{Stands, stands_move, stands_whole, stands_both}
use Rattle.paper.proofs.Sections.{length_words, words_stand}
use Rattle.paper.proofs.Spaces.{length_spaced, get_d_spaced}
use Rattle.paper.proofs.Meaning.{before_of}
use Rattle.contents.proofs.Spaced.{sum_all, length_each, each_same}
use Rattle.contents.proofs.Standing.{stands_each}
use Rattle.contents.proofs.Fields.{record_stands, record_taken, length_head}
use Rattle.contents.proofs.LoopRecords.{loop_length, loop_record}
use Rattle.contents.proofs.Trailers.{trailer_stands}
use Rattle.contents.proofs.Kept.{KeptContent, LaidFile, layout_laid, Writable, writable_write}
use Rattle.contents.proofs.SameCases.{same_back, size_same, content_same}
use Rattle.contents.proofs.Written.{lists_whole, file_length}
use Rattle.contents.proofs.Contents.{content_trailer, content_rows, content_lists, content_loop, content_case, head_number, row_number}

module _ (f : List ℕ) (t : Trailer) where
  abbrev c : FileContent
  c = content_by f t

  -- fact i as it is read
  abbrev fact_again : ℕ → List ℕ
  fact_again i = head_bytes ((case_of f t).fact i) ++ words (row_numbers f t i)

  rows_again : (i : ℕ) → i < t.facts → rows_in c i ≡ row_numbers f t i
  rows_again i l =
      rw (content_rows f t i l)
      (ext_get_or 0 _ _ (length_spaced _ 1 _ _ ∙ sym (length_spaced _ 2 _ _))
      (λ k m.
      let n : k < 8 * rows_at f t i = omega (arith, length_spaced (λ q. get_or c.rows q 0) 1 (8 * rows_before c i) (8 * rows_at f t i)) in
      get_d_spaced _ 1 _ _ k n ∙ ap (λ (p : ℕ). get_or c.rows p 0) (omega arith) ∙ row_number f t i k l n ∙ sym (get_d_spaced _ 2 _ _ k n)))

  fact_again_lem : (i : ℕ) → i < t.facts → fact_bytes c i ≡ fact_again i
  unfolding fact_bytes
  fact_again_lem i l =
      let e : 4 * i ≡ 4 * i + 0 = omega arith in
      let scope : get_or c.heads (4 * i) 0 ≡ ((case_of f t).fact i).scope = ap (λ (p : ℕ). get_or c.heads p 0) e ∙ head_number f t i 0 l (omega arith) in
      rw (scope, head_number f t i 1 l (omega arith), head_number f t i 2 l (omega arith), rows_again i l) refl

  -- the sections of the file, as they are read
  abbrev sections : List ℕ
  sections =
      words (words_at f 0 t.nodes)
      ++ (words (words_at f (edges_at t) (2 * t.edges)) ++ (each (λ j. loop_bytes t.version (loop_at f t j)) t.loops ++ (each fact_again t.facts ++ trailer_bytes t)))

  file_again : file_of c ≡ sections
  unfolding file_of content_by
  file_again =
      let loops = each_same (λ j. loop_bytes t.version (loop_in c j)) (λ j. loop_bytes t.version (loop_at f t j)) t.loops (λ j l. ap (loop_bytes t.version) (content_loop f t j l)) in
      let facts = each_same (fact_bytes c) fact_again t.facts fact_again_lem in
      rw (content_trailer f t, loops, facts) refl

  -- where loop j and fact i begin
  loops_place : (j : ℕ) → length (each (λ i. loop_bytes t.version (loop_at f t i)) j) ≡ loop_size t.version * j
  loops_place j =
      let size = loop_size t.version in
      length_each (λ i. loop_bytes t.version (loop_at f t i)) (λ i. size) j (λ i l. loop_length t.version (loop_at f t i)) ∙ sum_all size j

  fact_length : (i : ℕ) → length (fact_again i) ≡ 6 + 16 * rows_at f t i
  fact_length i =
      length-append (head_bytes ((case_of f t).fact i)) (words (row_numbers f t i))
      ∙ omega (arith, length_head ((case_of f t).fact i), length_words (row_numbers f t i), length_spaced (u16_at f) 2 (head_end (fact_place f t i)) (8 * rows_at f t i))

  facts_place : (i : ℕ) → facts_at t + length (each fact_again i) ≡ fact_place f t i
  unfolding each fact_place fact_end rows_at case_of
  facts_place zero = omega arith
  facts_place (suc i) = omega (arith, length-append (each fact_again i) (fact_again i), fact_length i, facts_place i)

  module _ (b : Bytes f) where
    loop_stands : (j : ℕ) → Stands f (loop_place t j) (loop_bytes t.version (loop_at f t j))
    unfolding loop_bytes per_loop
    loop_stands j =
        let here : loop_place t j + 0 ≡ loop_place t j = omega arith in
        let fields = loop_fields t.version in
        let again = ap (record_bytes fields) (loop_record f t j) ∙ record_taken fields (loop_values (loop_at f t j)) in
        stands_move f _ here (subst (Stands f (loop_place t j + 0)) again (record_stands f (loop_place t j) b 0 fields))

    head_stands : (i : ℕ) → Stands f (fact_place f t i) (head_bytes ((case_of f t).fact i))
    unfolding case_of spaced
    head_stands i =
        let p = fact_place f t i in
        let e : p + 2 + 2 ≡ p + 4 = omega arith in
        rw e at (words_stand f b p 3)

    fact_stands : (i : ℕ) → Stands f (fact_place f t i) (fact_again i)
    fact_stands i =
        let p = fact_place f t i in
        let here : head_end p ≡ p + length (head_bytes ((case_of f t).fact i)) = omega (arith, length_head ((case_of f t).fact i)) in
        stands_both f p _ _ (head_stands i) (stands_move f _ here (words_stand f b (head_end p) (8 * rows_at f t i)))

    -- each section stands where it was read
    sections_stand : fact_place f t t.facts ≡ end_at f → Stands f (end_at f) (trailer_bytes t) → Stands f 0 sections
    sections_stand full trailer =
        stands_both f 0 _ _ (words_stand f b 0 t.nodes)
        (stands_move f _ edges_here
        (stands_both f (edges_at t) _ _ (words_stand f b (edges_at t) (2 * t.edges))
        (stands_move f _ loops_here
        (stands_both f (loops_at t) _ _ (stands_each f _ _ _ (λ j l. stands_move f _ (loop_here j) (loop_stands j)))
        (stands_move f _ facts_here
        (stands_both f (facts_at t) _ _ (stands_each f _ _ _ (λ i l. stands_move f _ (sym (facts_place i)) (fact_stands i)))
        (stands_move f _ (sym (facts_place t.facts ∙ full)) trailer)))))))
      where
        edges_here : edges_at t ≡ 0 + length (words (words_at f 0 t.nodes))
        edges_here = omega (arith, length_words (words_at f 0 t.nodes), length_spaced (u16_at f) 2 0 t.nodes)

        loops_here : loops_at t ≡ edges_at t + length (words (words_at f (edges_at t) (2 * t.edges)))
        loops_here = omega (arith, length_words (words_at f (edges_at t) (2 * t.edges)), length_spaced (u16_at f) 2 (edges_at t) (2 * t.edges))

        loop_here : (j : ℕ) → loop_place t j ≡ loops_at t + length (each (λ i. loop_bytes t.version (loop_at f t i)) j)
        loop_here j = omega (arith, loops_place j)

        facts_here : facts_at t ≡ loops_at t + length (each (λ i. loop_bytes t.version (loop_at f t i)) t.loops)
        facts_here = omega (arith, loops_place t.loops)

  sections_length : length sections ≡ fact_place f t t.facts + 32
  sections_length =
      let written = file_length c (lists_whole c (content_lists f t)) in
      let facts = each_same (fact_bytes c) fact_again t.facts fact_again_lem in
      ap length (sym file_again) ∙ (rw (content_trailer f t, facts) at written) ∙ omega (arith, facts_place t.facts)

  module _ (k : LaidFile f t) where
    -- no fact ends past the trailer
    facts_room : (n : ℕ) → n ≤ t.facts → fact_place f t n ≤ end_at f
    unfolding fact_place
    facts_room zero l = (offsets_at f t k.layout.offsets).room
    facts_room (suc i) l = (k.facts i (omega arith)).rows_room

    pub facts_full : fact_place f t t.facts ≡ end_at f
    facts_full = omega (arith, k.full, facts_room t.facts (omega arith))

    named_whole : (i : ℕ) → i < t.facts → size (scope_of (case_in c) ((case_in c).fact i)) ≡ rows_at f t i → bad_rows_named c i ≡ false
    unfolding bad_rows_named
    named_whole i l e = rw (eq-eqb _ _ (content_rows f t i l ∙ sym e)) refl

    -- the writer takes the content of a file that is laid out
    content_writable : Writable c
    unfolding case_of rows_at bad_cache content_by
    content_writable =
        let back = same_back _ _ _ (content_case f t) in
        let kept : (i : ℕ) → i < t.facts → KeptContent (case_of f t) i (before_of (case_of f t) i) false = λ i l. (k.facts i l).kept in
        record {
          version = k.layout.version;
          cache = rw (content_trailer f t) (ap not k.layout.cache);
          lists = content_lists f t;
          numbers = rw (content_trailer f t) k.layout.numbers;
          shape = sym (shape_same _ _ back.graph _ _ refl) ∙ k.shape;
          facts = λ i l.
              let m : i < t.facts = rw (content_trailer f t) at l in
              let s = content_same _ _ _ back (λ j. false) kept (λ j q. refl) i m in
              record { head = s.head; order = s.order; whole = named_whole i m (size_same _ _ _ back (λ j. false) kept (λ j q. refl) i m); rows = s.rows };
        }

module _ (f : List ℕ) (b : Bytes f) (h : layout_verdict f ≡ Ok tt) where
  -- "any file that passes them comes out again byte for byte when its content is written, so one content has one file"
  pub written_again : file_of (content_of f) ≡ f
  written_again =
      let k = layout_laid f h in
      let e = facts_full f (trailer_of f) k in
      let s = sections_stand f (trailer_of f) b e (trailer_stands f k.layout.offsets k.layout.letters b) in
      file_again f (trailer_of f) ∙ stands_whole f _ s (sections_length f (trailer_of f) ∙ omega (arith, e, k.layout.long))

  -- and the writer takes it
  pub written_taken : (room : ℕ) → length f ≤ room → write_verdict (content_of f) room ≡ Ok tt
  written_taken room l =
      writable_write (content_of f) room (content_writable f (trailer_of f) (layout_laid f h)) (omega (arith, ap length written_again))

-- "so one content has one file"
pub one_file : (f g : List ℕ) → Bytes f → Bytes g → layout_verdict f ≡ Ok tt → layout_verdict g ≡ Ok tt → content_of f ≡ content_of g → f ≡ g
one_file f g a b h k e = sym (written_again f a h) ∙ ap file_of e ∙ written_again g b k
