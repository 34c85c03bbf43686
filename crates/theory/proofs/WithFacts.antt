-- A file's graph with other facts, part by part: the graph's bytes, the facts and the trailer stand where they are read. It keeps the rules 1 to 5 and holds the same graph, so it is judged by its facts.
use Rattle.std.specs.Prelude.{Ok}
use Prim.Native.Nat.{ℕ, ◌+◌, ◌-◌, ◌*◌, ◌≤◌, ◌<◌}
use native.Mathlib.Omega.{arith}
use mathlib.Core.Path.{◌≡◌, refl, sym, ◌∙◌, ap}
use mathlib.Core.Bool.{false}
use mathlib.Core.List.{List, [], ◌∷◌, ◌++◌}
use lib.ListN.{length, take, drop, length-append, length-take, length-drop, get_or-append}
use lib.Seq.{get_or-take, ext_get_or}
use borrow.Author.Tests.{le-ltb, eq-eqb}
use Rattle.paper.specs.declared.Trailer.{Trailer}
use Rattle.paper.specs.Files.{u8_at, u16_at, u32_at, end_at, trailer_of, bad_letter, bad_letters, bad_numbers, bad_offsets, edges_at, loop_place, facts_at, node_at, from_at, to_at, loop_at, case_of, read_case}
use Rattle.paper.specs.Rules.{Passes}
use Rattle.paper.specs.Verdicts.{graph_rules, fact_rules, whole_file_rules, file_verdict}
use Rattle.paper.specs.OneFact.{words, graph_bytes, trailer_with, with_facts}
use Rattle.paper.proofs.Least.{some_same}
use Rattle.paper.proofs.FileLaws.{laid}
use Rattle.paper.proofs.LayoutTests.{KeptLayout, Offsets, offsets_at, tests_kept, layout_on}
use Rattle.paper.proofs.Parts.{Stands, stands_self, stands_left, stands_right, stands_take, stands_drop, stands_move}
use Rattle.paper.proofs.Sections.{length_words, word_is, u8_same, u16_same, u32_same}
use Rattle.paper.proofs.LoopSizes.{size_with, size_low, loop_ends, visits_same}
use Rattle.paper.proofs.RuleLaws.{accepted_on}
use Rattle.paper.proofs.VerdictLaws.{layout_kept, hands_graph}
use Rattle.paper.proofs.SameGraphs.{SameGraph, graph_same}

-- f's trailer, with n facts
abbrev pub holding : List ℕ → ℕ → Trailer
holding f n =
    record {
      nodes = (trailer_of f).nodes;
      edges = (trailer_of f).edges;
      loops = (trailer_of f).loops;
      facts = n;
      policy = (trailer_of f).policy;
      ways = (trailer_of f).ways;
      sets = (trailer_of f).sets;
      version = (trailer_of f).version;
    }

module _ (f facts : List ℕ) (n : ℕ) (kept : KeptLayout f (trailer_of f)) where
  abbrev file : List ℕ
  file = with_facts f facts n

  abbrev trailer : Trailer
  trailer = holding f n

  -- where the facts stand
  abbrev place : ℕ
  place = facts_at trailer

  abbrev last : List ℕ
  last = drop (end_at f) f

  pub offsets : Offsets f (trailer_of f)
  offsets = offsets_at f (trailer_of f) kept.offsets

  -- the parts, one after another
  pub graph_length : length (graph_bytes f) ≡ place
  graph_length = length-take place f ∙ omega (arith, offsets.room)

  pub last_length : length last ≡ 32
  last_length = length-drop (end_at f) f ∙ omega (arith, kept.long)

  pub graph_part : Stands file 0 (graph_bytes f)
  unfolding with_facts
  graph_part = stands_left file 0 (graph_bytes f) _ (stands_self file)

  -- the bytes of the graph are the same
  pub graph_same_bytes : take place file ≡ graph_bytes f
  unfolding with_facts
  graph_same_bytes =
      ext_get_or 0 _ _ (length-take place file ∙ omega (arith, length-append (graph_bytes f) (facts ++ trailer_with f n), graph_length, length-take place f, offsets.room))
      (λ i l. let h : i < place = omega (arith, length-take place file) in get_or-take place file i 0 h ∙ get_or-append (graph_bytes f) _ 0 i (omega (arith, graph_length)))

  after_graph : Stands file place (facts ++ trailer_with f n)
  unfolding with_facts
  after_graph = stands_move file _ (omega (arith, graph_length)) (stands_right file 0 (graph_bytes f) _ (stands_self file))

  pub facts_part_lem : Stands file place facts
  facts_part_lem = stands_left file place facts _ after_graph

  pub length_trailer : length (trailer_with f n) ≡ 32
  length_trailer =
      omega (
        arith,
        length-append (take 22 last) (words (n ∷ []) ++ drop 24 last),
        length-append (words (n ∷ [])) (drop 24 last),
        length_words (n ∷ []),
        length-take 22 last,
        length-drop 24 last,
        last_length,
      )

  pub file_length : length file ≡ place + length facts + 32
  unfolding with_facts
  file_length =
      omega (arith, length-append (graph_bytes f) (facts ++ trailer_with f n), length-append facts (trailer_with f n), graph_length, length_trailer)

  pub end_is : end_at file ≡ place + length facts
  end_is = omega (arith, file_length)

  -- the trailer
  trailer_part : Stands file (end_at file) (trailer_with f n)
  trailer_part = stands_move file _ (sym end_is) (stands_right file place facts _ after_graph)

  pub last_part : Stands f (end_at f) last
  last_part = stands_move f _ (omega arith) (stands_drop f 0 (end_at f) f (stands_self f))

  front : Stands file (end_at file) (take 22 last)
  front = stands_left file (end_at file) (take 22 last) _ trailer_part

  after_front : Stands file (end_at file + 22) (words (n ∷ []) ++ drop 24 last)
  after_front = stands_move file _ (omega (arith, length-take 22 last, last_length)) (stands_right file (end_at file) (take 22 last) _ trailer_part)

  back : Stands file (end_at file + 24) (drop 24 last)
  back = stands_move file _ (omega (arith, length_words (n ∷ []))) (stands_right file (end_at file + 22) (words (n ∷ [])) _ after_front)

  front_word : (i : ℕ) → i + 2 ≤ 22 → u16_at file (end_at file + i) ≡ u16_at f (end_at f + i)
  front_word i l =
      u16_same file f (end_at file) (end_at f) (take 22 last) front (stands_take f (end_at f) 22 last last_part) i (omega (arith, length-take 22 last, last_length))

  front_double : (i : ℕ) → i + 4 ≤ 22 → u32_at file (end_at file + i) ≡ u32_at f (end_at f + i)
  front_double i l =
      u32_same file f (end_at file) (end_at f) (take 22 last) front (stands_take f (end_at f) 22 last last_part) i (omega (arith, length-take 22 last, last_length))

  back_byte : (i : ℕ) → 24 ≤ i → i < 32 → u8_at file (end_at file + i) ≡ u8_at f (end_at f + i)
  back_byte i l h =
      ap (λ (p : ℕ). u8_at file p) (omega arith)
      ∙ u8_same file f (end_at file + 24) (end_at f + 24) (drop 24 last) back (stands_drop f (end_at f) 24 last last_part) (i - 24) (omega (arith, length-drop 24 last, last_length))
      ∙ ap (λ (p : ℕ). u8_at f p) (omega arith)

  number_written : u16_at file (end_at file + 22) ≡ n
  number_written =
      ap (λ (p : ℕ). u16_at file p) (omega arith)
      ∙ word_is file (end_at file + 22) (n ∷ []) (stands_left file (end_at file + 22) (words (n ∷ [])) _ after_front) 0 (omega arith)

  version : u8_at file (end_at file + 27) ≡ u8_at f (end_at f + 27)
  version = back_byte 27 (omega arith) (omega arith)

  pub trailer_is : trailer_of file ≡ trailer
  unfolding trailer_of
  trailer_is =
      rw (
        front_word 16 (omega arith),
        front_word 18 (omega arith),
        front_word 20 (omega arith),
        number_written,
        back_byte 24 (omega arith) (omega arith),
        back_byte 25 (omega arith) (omega arith),
        back_byte 26 (omega arith) (omega arith),
        version,
      )
      refl

  -- rules 1 to 5
  letter : (i : ℕ) → i < 4 → bad_letter file i ≡ bad_letter f i
  unfolding bad_letter
  letter i l =
      let e : u8_at file (end_at file + 28 + i) ≡ u8_at f (end_at f + 28 + i)
      = ap (λ (p : ℕ). u8_at file p) (omega arith) ∙ back_byte (28 + i) (omega arith) (omega arith) ∙ ap (λ (p : ℕ). u8_at f p) (omega arith) in
      rw e refl

  letters_same : bad_letters file ≡ bad_letters f
  unfolding bad_letters
  letters_same = rw (some_same _ _ 4 letter, version) refl

  offsets_kept : bad_offsets file trailer ≡ false
  unfolding bad_offsets
  offsets_kept =
      let start : u32_at file (end_at file) ≡ 0
      = ap (λ (p : ℕ). u32_at file p) (omega arith) ∙ front_double 0 (omega arith) ∙ ap (λ (p : ℕ). u32_at f p) (omega arith) ∙ offsets.nodes in
      rw (
        start,
        eq-eqb _ _ (front_double 4 (omega arith) ∙ offsets.edges),
        eq-eqb _ _ (front_double 8 (omega arith) ∙ offsets.loops),
        eq-eqb _ _ (front_double 12 (omega arith) ∙ offsets.facts),
        le-ltb (end_at file) place (omega (arith, end_is)),
      )
      refl

  numbers_kept : n ≤ 256 → bad_numbers trailer ≡ false
  unfolding bad_numbers
  numbers_kept few =
      let l = laid f (trailer_of f) kept.long kept.cache kept.numbers kept.offsets in
      rw (le-ltb _ _ l.nodes_low, le-ltb _ _ l.nodes_high, le-ltb _ _ l.edges_high, le-ltb _ _ l.loops_high, le-ltb _ _ few) refl

  layout : n ≤ 256 → KeptLayout file trailer
  layout few =
      record {
        long = omega (arith, file_length);
        letters = letters_same ∙ kept.letters;
        version = kept.version;
        cache = kept.cache;
        numbers = numbers_kept few;
        offsets = offsets_kept;
      }

  graph_word : (p : ℕ) → p + 2 ≤ place → u16_at f p ≡ u16_at file p
  graph_word p l =
      ap (λ (q : ℕ). u16_at f q) (omega arith)
      ∙ u16_same f file 0 0 (graph_bytes f) (stands_take f 0 place f (stands_self f)) graph_part p (omega (arith, graph_length))
      ∙ ap (λ (q : ℕ). u16_at file q) (omega arith)

  graph_double : (p : ℕ) → p + 4 ≤ place → u32_at f p ≡ u32_at file p
  graph_double p l =
      ap (λ (q : ℕ). u32_at f q) (omega arith)
      ∙ u32_same f file 0 0 (graph_bytes f) (stands_take f 0 place f (stands_self f)) graph_part p (omega (arith, graph_length))
      ∙ ap (λ (q : ℕ). u32_at file q) (omega arith)

  -- 6 to 10 and 26: the file holds f's graph.
  pub same_graph : SameGraph (read_case f) (case_of file trailer)
  unfolding case_of node_at from_at to_at loop_at
  same_graph =
      record {
        policy = refl;
        ways = refl;
        sets = refl;
        nodes = refl;
        edges = refl;
        loops = refl;
        fetch = λ v l. graph_word (2 * v) (omega arith);
        from = λ i l. graph_word (edges_at trailer + 4 * i) (omega arith);
        to = λ i l. graph_word (edges_at trailer + 4 * i + 2) (omega arith);
        loop = λ j l.
            let v = (trailer_of f).version in
            let ends = loop_ends v j (trailer_of f).loops l in
            let low = size_low v in
            rw (
              graph_word (loop_place trailer j) (omega arith),
              graph_word (loop_place trailer j + 2) (omega arith),
              graph_double (loop_place trailer j + 4) (omega arith),
              visits_same v (u32_at f (loop_place trailer j + 8)) (u32_at file (loop_place trailer j + 8)) (λ n. graph_double (loop_place trailer j + 8) (omega (arith, size_with v n))),
            )
            refl;
      }

-- A graph that passes 1 to 10 and 26 passes them with other facts too: the file is judged by its facts.
pub judged_by : (f facts : List ℕ) (n : ℕ) → Passes (whole_file_rules f) → n ≤ 256 → file_verdict (with_facts f facts n) ≡ fact_rules (with_facts f facts n) (holding f n) (Ok tt)
judged_by f facts n passes few =
    let kept = tests_kept f _ passes in
    let file = with_facts f facts n in
    let trailer = holding f n in
    let rest = fact_rules file trailer (Ok tt) in
    let graph : graph_rules (read_case f) (Ok tt) ≡ (Ok tt) = (layout_kept f _ passes).1 in
    layout_on file trailer (trailer_is f facts n kept) (layout f facts n kept few) (graph_rules (read_case file) (fact_rules file (trailer_of file) (Ok tt)))
    ∙ ap (λ (t : Trailer). graph_rules (case_of file t) (fact_rules file t (Ok tt))) (trailer_is f facts n kept)
    ∙ sym (graph_same _ _ (same_graph f facts n kept) rest)
    ∙ accepted_on (graph_rules (read_case f)) (hands_graph (read_case f)) rest (Ok tt) (sym graph) refl
