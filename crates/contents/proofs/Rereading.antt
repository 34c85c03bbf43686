-- What the writer writes passes the layout rules and reads back as the same lists.
use Rattle.std.specs.Prelude.{Ok}
use Prim.Native.Nat.{ℕ, zero, suc, ◌+◌, ◌*◌, ◌≤◌, ◌<◌}
use native.Mathlib.Omega.{arith}
use native.Mathlib.Decide.{ℕ_discrete}
use mathlib.Core.Path.{◌≡◌, refl, sym, ◌∙◌, ap, subst}
use mathlib.Core.Bool.{false}
use mathlib.Core.List.{List, [], ◌∷◌}
use lib.ListN.{length, get_or, take, length-append}
use borrow.Author.Tests.{eq-eqb, ne_eqb, eqb-true, not-false}
use Rattle.paper.specs.declared.Trailer.{Trailer}
use Rattle.paper.specs.Lists.{each, spaced, part}
use Rattle.paper.specs.Machines.{none}
use Rattle.paper.specs.Cases.{size, range_of, scope_of}
use Rattle.paper.specs.Records as Records
use Rattle.paper.specs.Files.{u16_at, end_at, trailer_of, bad_cache, edges_at, loops_at, loop_place, facts_at, head_end, loop_at, fact_end, fact_place, case_of}
use Rattle.paper.specs.OneFact.{words, head_bytes}
use Rattle.paper.specs.Writing.{FileContent, per_loop, trailer_in, loop_in, rows_named, rows_before, fact_in, case_in, loop_values, loop_bytes, rows_in, fact_bytes, file_of, words_at, rows_at, loop_numbers, head_numbers, row_numbers, content_by, content_of, layout_verdict, bad_rows_named, write_verdict}
use Rattle.paper.proofs.FactLaws.{head_sound}
use Rattle.paper.proofs.VerdictLaws.{end_after}
use Rattle.paper.proofs.SameGraphs.{shape_same}
use Rattle.paper.proofs.Parts.{Stands, stands_self, stands_left, stands_right, stands_move}
use Rattle.paper.proofs.Sections.{word_is}
use Rattle.paper.proofs.LoopSizes.{visits_without}
use Rattle.paper.proofs.Spaces.{length_spaced}
use Rattle.paper.proofs.Meaning.{before_of}
use Rattle.contents.proofs.Spaced.{each_rises, parts_all, sum_all, sum_times, each_same}
use Rattle.contents.proofs.Standing.{stands_at}
use Rattle.contents.proofs.Fields.{record_is, words_read, length_head}
use Rattle.contents.proofs.LoopRecords.{loop_fitting, loop_is, loop_record, loop_part}
use Rattle.contents.proofs.Trailers.{trailer_read_lem, letters_read_lem, offsets_read}
use Rattle.contents.proofs.Kept.{KeptContent, LaidFact, LaidFile, laid_layout, Writable, write_writable}
use Rattle.contents.proofs.SameCases.{SameCase, content_same}
use Rattle.contents.proofs.Contents.{content_case}
use Rattle.contents.proofs.Written.{Whole, lists_whole, loops_length, fact_length, edges_part, loops_part_lem, facts_part_lem, file_length, trailer_part}

module _ (c : FileContent) where
  abbrev f : List ℕ
  f = file_of c

  abbrev t : Trailer
  t = trailer_in c

  abbrev loops_part : ℕ → List ℕ
  loops_part n = each (λ j. loop_bytes c.version (loop_in c j)) n

  abbrev per : ℕ
  per = per_loop c.version

  abbrev facts_part : ℕ → List ℕ
  facts_part n = each (fact_bytes c) n

  module _ (w : Whole c) where
    nodes_back : words_at f 0 t.nodes ≡ c.nodes
    unfolding file_of trailer_in
    nodes_back = words_read f 0 c.nodes (stands_left f 0 (words c.nodes) _ (stands_self f))

    edges_back : words_at f (edges_at t) (2 * t.edges) ≡ c.edges
    edges_back = rw (← w.edges) (words_read f (edges_at t) c.edges (stands_left f (edges_at t) (words c.edges) _ (edges_part c w)))

    -- a loop reads back
    loop_values_lem : (j : ℕ) → j < t.loops → loop_numbers f t j ≡ take per (loop_values (loop_in c j))
    unfolding trailer_in loop_bytes per_loop
    loop_values_lem j l =
        let s : Stands f (loop_place t j + 0) (loop_bytes c.version (loop_in c j))
        = stands_move f _ (omega (arith, loops_length c j)) (stands_at f (loops_at t) _ t.loops j l (stands_left f (loops_at t) (loops_part t.loops) _ (loops_part_lem c w))) in
        sym (loop_record f t j) ∙ record_is f (loop_place t j) 0 (Records.loop_fields c.version) _ (loop_fitting c.version (loop_in c j)) s

    loop_numbers_lem : (j : ℕ) → j < t.loops → loop_numbers f t j ≡ part c.loops (per * j) per
    loop_numbers_lem j l = loop_values_lem j l ∙ loop_part c j

    loop_back : (j : ℕ) → j < t.loops → loop_at f t j ≡ loop_in c j
    unfolding trailer_in loop_at loop_in
    loop_back j l =
        loop_is c.version (loop_at f t j) (loop_in c j) (λ h. visits_without c.version _ h ∙ sym (visits_without c.version _ h)) (loop_values_lem j l)

    module _ (k : Writable c) where
      -- 15: the head names as many rows as the scope has nodes
      named : (i : ℕ) → i < t.facts → rows_named c i ≡ size (scope_of (case_in c) ((case_in c).fact i))
      unfolding bad_rows_named
      named i l = eqb-true _ _ (not-false _ (k.facts i l).whole)

      -- 12: a scope that is in range is read as it was written
      scope_back : (i : ℕ) → i < t.facts → range_of t.nodes (loop_at f t) (fact_in c i).scope ≡ scope_of (case_in c) ((case_in c).fact i)
      unfolding range_of case_in
      scope_back i l =
          elim (ℕ_discrete (fact_in c i).scope none) [
            | yes p ↦ rw (eq-eqb _ _ p) refl
            | no n ↦ rw (ne_eqb _ _ n) (loop_back (fact_in c i).scope ((head_sound (case_in c) ((case_in c).fact i) (k.facts i l).head).scope n))
          ]

      -- fact i, if it is looked for where it stands
      module _ (i : ℕ) (l : i < t.facts) (here : fact_place f t i ≡ facts_at t + length (facts_part i)) where
        fact_part_lem : Stands f (fact_place f t i) (fact_bytes c i)
        fact_part_lem = stands_move f _ (sym here) (stands_at f (facts_at t) (fact_bytes c) t.facts i l (stands_left f (facts_at t) (facts_part t.facts) _ (facts_part_lem c w)))

        -- its head's numbers
        number_back : (n : ℕ) → n < 3 → u16_at f (fact_place f t i + 2 * n) ≡ get_or ((fact_in c i).scope ∷ (fact_in c i).block ∷ (fact_in c i).limit ∷ []) n 0
        unfolding fact_bytes
        number_back n m = word_is f (fact_place f t i) _ (stands_left f (fact_place f t i) (head_bytes (fact_in c i)) _ fact_part_lem) n m

        fact_scope : u16_at f (fact_place f t i) ≡ (fact_in c i).scope
        fact_scope = ap (λ (q : ℕ). u16_at f q) (omega arith) ∙ number_back 0 (omega arith)

        rows_named_lem : rows_at f t i ≡ rows_named c i
        unfolding rows_at case_of
        rows_named_lem = rw (fact_scope, scope_back i l) (sym (named i l))

        head_back : head_numbers f t i ≡ part c.heads (4 * i) 4
        unfolding spaced case_of rows_named
        head_back =
            let a : 4 * i + 1 + 1 ≡ 4 * i + 2 = omega arith in
            let b : 4 * i + 1 + 1 + 1 ≡ 4 * i + 3 = omega arith in
            rw (fact_scope, number_back 1 (omega arith), number_back 2 (omega arith), rows_named_lem, b, a) refl

        rows_back : row_numbers f t i ≡ rows_in c i
        unfolding fact_bytes
        rows_back =
            let n : 8 * rows_at f t i ≡ length (rows_in c i) = omega (arith, rows_named_lem, length_spaced (λ q. get_or c.rows q 0) 1 (8 * rows_before c i) (8 * rows_named c i)) in
            let here : fact_place f t i + length (head_bytes (fact_in c i)) ≡ head_end (fact_place f t i) = omega (arith, length_head (fact_in c i)) in
            let s : Stands f (head_end (fact_place f t i)) (words (rows_in c i)) = stands_move f _ here (stands_right f (fact_place f t i) (head_bytes (fact_in c i)) _ fact_part_lem) in
            ap (λ (m : ℕ). words_at f (head_end (fact_place f t i)) m) n ∙ words_read f _ (rows_in c i) s

      -- where fact i stands
      places : (i : ℕ) → i ≤ t.facts → fact_place f t i ≡ facts_at t + length (facts_part i)
      unfolding fact_place fact_end each rows_at case_of
      places zero l = omega arith
      places (suc i) l =
          let p = places i (omega arith) in
          omega (arith, p, length-append (facts_part i) (fact_bytes c i), fact_length c i, rows_named_lem i (omega arith) p)

      loops_back : each (loop_numbers f t) t.loops ≡ c.loops
      loops_back =
          each_same (loop_numbers f t) (λ j. part c.loops (per * j) per) t.loops loop_numbers_lem
          ∙ parts_all c.loops (λ j. per) (λ j. per * j) t.loops (w.loops ∙ sym (sum_all per t.loops)) (λ j l. sym (sum_all per j))

      heads_back : each (head_numbers f t) t.facts ≡ c.heads
      heads_back =
          each_same (head_numbers f t) (λ i. part c.heads (4 * i) 4) t.facts (λ i l. head_back i l (places i (omega arith)))
          ∙ parts_all c.heads (λ i. 4) (λ i. 4 * i) t.facts (w.heads ∙ sym (sum_all 4 t.facts)) (λ i l. sym (sum_all 4 i))

      all_rows_back : each (row_numbers f t) t.facts ≡ c.rows
      all_rows_back =
          each_same (row_numbers f t) (λ i. rows_in c i) t.facts (λ i l. rows_back i l (places i (omega arith)))
          ∙ parts_all c.rows (λ i. 8 * rows_named c i) (λ i. 8 * rows_before c i) t.facts (w.rows ∙ sym (sum_times 8 (rows_named c) t.facts))
          (λ i l. sym (sum_times 8 (rows_named c) i))

      content_back : content_by f t ≡ c
      unfolding content_by trailer_in
      content_back = rw (nodes_back, edges_back, loops_back, heads_back, all_rows_back) refl

      -- the case that is read is the case that was written
      case_back : SameCase (rows_at f t) (case_in c) (case_of f t)
      case_back = subst (λ (d : FileContent). SameCase (rows_at f t) (case_in d) (case_of f t)) content_back (content_case f t)

      fact_laid : (i : ℕ) → i < t.facts → KeptContent (case_of f t) i (before_of (case_of f t) i) false → LaidFact f t i (before_of (case_of f t) i)
      unfolding fact_place
      fact_laid i l kept =
          let p : fact_end f t (fact_place f t i) ≡ facts_at t + length (facts_part (suc i)) = places (suc i) (omega arith) in
          let r : fact_end f t (fact_place f t i) ≤ end_at f = omega (arith, p, (file_length c w), each_rises (fact_bytes c) (suc i) t.facts (omega arith)) in
          record { head_room = omega (arith, r, end_after f t (fact_place f t i)); rows_room = r; kept = kept }

      file_laid : LaidFile f t
      unfolding trailer_in case_in bad_cache
      file_laid =
          let sizes : (i : ℕ) → i < t.facts → size (scope_of (case_in c) ((case_in c).fact i)) ≡ rows_at f t i = λ i l. sym (named i l) ∙ sym (rows_named_lem i l (places i (omega arith))) in
          record {
            layout =
                record {
                  long = omega (arith, (file_length c w));
                  letters = letters_read_lem f t (trailer_part c w) k.version;
                  version = k.version;
                  cache = not-false _ k.cache;
                  numbers = k.numbers;
                  offsets = offsets_read f t (trailer_part c w) (omega (arith, (file_length c w)));
                };
            shape = sym (shape_same _ _ case_back.graph _ _ refl) ∙ k.shape;
            facts = λ i l. fact_laid i l (content_same _ _ _ case_back (bad_rows_named c) k.facts sizes i l);
            full = omega (arith, (file_length c w), places t.facts (omega arith));
          }

module _ (c : FileContent) (room : ℕ) (h : write_verdict c room ≡ Ok tt) where
  writable : Writable c
  writable = (write_writable c room h).0

  whole : Whole c
  whole = lists_whole c writable.lists

  trailer_back : trailer_of (file_of c) ≡ trailer_in c
  trailer_back = trailer_read_lem (file_of c) (trailer_in c) (trailer_part c whole)

  -- "What it writes passes them and reads back as the same lists"
  pub written_passes : layout_verdict (file_of c) ≡ Ok tt
  written_passes = laid_layout (file_of c) (subst (LaidFile (file_of c)) (sym trailer_back) (file_laid c whole writable))

  pub written_reads : content_of (file_of c) ≡ c
  written_reads = ap (content_by (file_of c)) trailer_back ∙ content_back c whole writable

  pub written_fits : length (file_of c) ≤ room
  written_fits = (write_writable c room h).1
