-- The file of one fact holds the same graph, and the fact with its rows. So it is accepted exactly when the rows are as long as they must be and pass.
use Rattle.std.specs.Prelude.{Ok}
use Prim.Native.Nat.{ℕ, ◌+◌, ◌*◌, ◌≤◌, ◌<◌}
use native.Mathlib.Omega.{arith}
use mathlib.Core.Path.{◌≡◌, sym, ◌∙◌, ap}
use mathlib.Core.Logic.{◌≢◌, ◌↔◌}
use mathlib.Core.Bool.{false}
use mathlib.Core.List.{List, [], ◌∷◌, ◌++◌}
use lib.Dec.{ltb}
use lib.ListN.{length, get_or, length-append}
use borrow.Author.Tests.{le-ltb, ltb-false}
use Rattle.paper.specs.declared.Loop.{Loop}
use Rattle.paper.specs.declared.Trailer.{Trailer}
use Rattle.paper.specs.Machines.{none}
use Rattle.paper.specs.Cases.{Fact, size, range_of, scope_of, fetches}
use Rattle.paper.specs.Facts.{none_previous, wrong_order, bad_head, bad_order, unfetched}
use Rattle.paper.specs.Files.{u16_at, end_at, trailer_of, facts_at, loop_at, fact_end, fact_place, case_of, read_case}
use Rattle.paper.specs.Known.{Shaped}
use Rattle.paper.specs.Rules.{rule, Passes}
use Rattle.paper.specs.Verdicts.{head_rule, order_rule, fetch_rule, evidence_rules, body_rules, turn_rules, turns_from, fact_rules, whole_file_rules, file_verdict, verdict}
use Rattle.paper.specs.OneFact.{head_bytes, with_facts, file_with}
use Rattle.paper.specs.Demands.{with_rows}
use Rattle.paper.proofs.Meaning.{SoundEvidence}
use Rattle.paper.proofs.RuleLaws.{past}
use Rattle.paper.proofs.FileLaws.{laid}
use Rattle.paper.proofs.LayoutTests.{KeptLayout, tests_kept}
use Rattle.paper.proofs.FactLaws.{head_sound, evidence_law}
use Rattle.paper.proofs.VerdictLaws.{layout_kept, graph_kept, turn_kept}
use Rattle.paper.proofs.Parts.{Stands, stands_self, stands_left, stands_right, stands_move}
use Rattle.paper.proofs.Sections.{length_words, word_is, u16_same}
use Rattle.paper.proofs.SameGraphs.{SameGraph, range_same}
use Rattle.paper.proofs.SameFacts.{SameFact, head_same, unfetched_same, evidence_same}
use Rattle.theory.proofs.WithFacts.{holding, facts_part_lem, end_is, same_graph, judged_by}

module _ (f : List ℕ) (t : Fact) (rows : List ℕ) (kept : KeptLayout f (trailer_of f)) where
  abbrev bytes : List ℕ
  bytes = head_bytes t ++ rows

  abbrev file : List ℕ
  file = with_facts f bytes 1

  abbrev one : Trailer
  one = holding f 1

  abbrev place : ℕ
  place = facts_at one

  head_part : Stands file place (head_bytes t)
  head_part = stands_left file place (head_bytes t) rows (facts_part_lem f bytes 1 kept)

  rows_part : Stands file (place + 6) rows
  rows_part =
      stands_move file _ (omega (arith, length_words (t.scope ∷ t.block ∷ t.limit ∷ []))) (stands_right file place (head_bytes t) rows (facts_part_lem f bytes 1 kept))

  end_of_file : end_at file ≡ place + 6 + length rows
  end_of_file = omega (arith, end_is f bytes 1 kept, length-append (head_bytes t) rows, length_words (t.scope ∷ t.block ∷ t.limit ∷ []))

  graph : SameGraph (read_case f) (case_of file one)
  graph = same_graph f bytes 1 kept

  -- The fact that it holds has t's head, and these rows as far as they go.
  head_word : (i p : ℕ) → i < 3 → p ≡ place + 2 * i → get_or (t.scope ∷ t.block ∷ t.limit ∷ []) i 0 ≡ u16_at file p
  head_word i p l e = sym (ap (λ (q : ℕ). u16_at file q) e ∙ word_is file place (t.scope ∷ t.block ∷ t.limit ∷ []) head_part i l)

  row_word : (p q : ℕ) → q ≡ place + 6 + p → p + 2 ≤ length rows → u16_at rows p ≡ u16_at file q
  row_word p q e l =
      ap (λ (r : ℕ). u16_at rows r) (omega arith)
      ∙ u16_same rows file 0 (place + 6) rows (stands_self rows) rows_part p l
      ∙ ap (λ (r : ℕ). u16_at file r) (sym e)

  pub same_fact : (n : ℕ) → 16 * n ≤ length rows → SameFact n (with_rows (read_case f) t rows) ((case_of file one).fact 0)
  unfolding case_of fact_place
  same_fact n h =
      record {
        scope = head_word 0 place (omega arith) (omega arith);
        block = head_word 1 (place + 2) (omega arith) (omega arith);
        limit = head_word 2 (place + 4) (omega arith) (omega arith);
        rows = λ j l.
            record {
              number = row_word (16 * j) (place + 6 + 16 * j) (omega arith) (omega arith);
              slot = λ i m. row_word (16 * j + 2 + 2 * i) (place + 6 + 16 * j + 2 + 2 * i) (omega arith) (omega arith);
            };
      }

  module _ (g : Shaped (read_case f)) (h : bad_head (read_case f) t ≡ false) where
    abbrev scope : Loop
    scope = scope_of (read_case f) t

    there : t.scope ≢ none → t.scope < (trailer_of f).loops
    unfolding case_of
    there = (head_sound (read_case f) t h).scope

    scope_is : scope ≡ range_of one.nodes (loop_at file one) t.scope
    unfolding case_of
    scope_is = range_same (read_case f) (case_of file one) graph t.scope there

    -- where the fact ends
    end_of_fact : fact_place file one 1 ≡ place + 6 + 16 * size scope
    unfolding fact_place fact_end
    end_of_fact = rw (← head_word 0 place (omega arith) (omega arith)) (ap (λ (l : Loop). place + 6 + 16 * size l) (sym scope_is))

    -- the fact ends where the trailer begins: 15, "rows cut short", and 19, "bytes left between last fact and trailer"
    accepted_one : fact_rules file one (Ok tt) ≡ Ok tt → (length rows ≡ 16 * size scope) × SoundEvidence (case_of file one) ((case_of file one).fact 0)
    unfolding fact_rules turns_from case_of fact_place
    accepted_one a =
        let b = turn_kept file one 0 none_previous place _ a in
        let end : end_at file ≤ fact_place file one 1 = ltb-false _ _ (past 19 0 _ _ b.1).0 in
        (omega (arith, b.0.room, end, end_of_file, end_of_fact), b.0.sound.evidence)

    module _ (fetched : unfetched (read_case f) t ≡ false) (whole : length rows ≡ 16 * size scope) where
      abbrev with : Fact
      with = with_rows (read_case f) t rows

      abbrev read : Fact
      read = (case_of file one).fact 0

      same : SameFact (size scope) with read
      same = same_fact (size scope) (omega arith)

      some_node : 1 ≤ (trailer_of f).nodes
      some_node = (laid f (trailer_of f) kept.long kept.cache kept.numbers kept.offsets).nodes_low

      same_evidence : Passes (evidence_rules (read_case f) 0 with) ↔ Passes (evidence_rules (case_of file one) 0 read)
      unfolding case_of
      same_evidence = evidence_same (read_case f) (case_of file one) graph with read same there g some_node 0

      same_head : bad_head (case_of file one) read ≡ false
      unfolding bad_head
      same_head = sym (head_same (read_case f) (case_of file one) graph with read same) ∙ h

      same_fetched : unfetched (case_of file one) read ≡ false
      unfolding case_of unfetched fetches
      same_fetched = sym (unfetched_same (read_case f) (case_of file one) graph with read same there g some_node) ∙ fetched

      one_accepted : Passes (evidence_rules (read_case f) 0 with) → fact_rules file one (Ok tt) ≡ Ok tt
      unfolding fact_rules turns_from turn_rules head_rule order_rule body_rules fetch_rule bad_order wrong_order fact_place case_of
      one_accepted a =
          rw (
            le-ltb (end_at file) (place + 6) (omega (arith, end_of_file)),
            same_head,
            same_fetched,
            le-ltb (end_at file) (fact_end file one place) (omega (arith, end_of_file, end_of_fact)),
            le-ltb (fact_place file one 1) (end_at file) (omega (arith, end_of_file, end_of_fact)),
          )
          (same_evidence.0 a)

-- For a graph that passes 1 to 10 and 26 and an otherwise sound fact, the file with that graph and this one fact with these rows is accepted exactly when the rows pass.
pub one_fact : (f : List ℕ) (t : Fact) (rows : List ℕ) → Passes (whole_file_rules f) → bad_head (read_case f) t ≡ false → unfetched (read_case f) t ≡ false →
    (room : ℕ) → 321 ≤ room →
    (verdict (file_with f t rows) room ≡ Ok tt) ↔ ((length rows ≡ 16 * size (scope_of (read_case f) t)) × Passes (evidence_rules (read_case f) 0 (with_rows (read_case f) t rows)))
unfolding file_with verdict
one_fact f t rows passes head fetched room long =
    let kept = tests_kept f _ passes in
    let g = (graph_kept (read_case f) (Ok tt) (layout_kept f _ passes).1).0 in
    let file = with_facts f (head_bytes t ++ rows) 1 in
    let by : rule 20 0 (ltb room 321) (file_verdict file) ≡ fact_rules file (holding f 1) (Ok tt)
    = rw (le-ltb room 321 long) (judged_by f (head_bytes t ++ rows) 1 passes (omega arith)) in (
      λ a.
          let r = accepted_one f t rows kept g head (sym by ∙ a) in
          (r.0, (same_evidence f t rows kept g head fetched r.0).1 ((evidence_law _ _ 0).1 r.1)),
      λ a. by ∙ one_accepted f t rows kept g head fetched a.0 a.1,
    )
