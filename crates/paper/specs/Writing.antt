-- "Write the file from lists": the content of a case file as plain lists, the bytes that are written for it, the content that a file has, and the refusals.
use Rattle.std.specs.Prelude.{ℕ, zero, suc, ◌+◌, ◌*◌, ◌/◌, ◌%◌, ◌≤◌, ◌≡◌, Bool, not, ◌||◌, List, [], ◌∷◌, ◌++◌, eqb, ltb, length, get_or, take, drop, Result, Ok, Err, Option}
use Rattle.paper.specs.declared.Loop.{Loop}
use Rattle.paper.specs.declared.Trailer.{Trailer}
use Rattle.paper.specs.declared.Previous.{Previous}
use Rattle.paper.specs.Answers.{Verdict}
use Rattle.paper.specs.Lists.{sum_to, each, spaced, part}
use Rattle.paper.specs.Cases.{Row, Fact, Case, size, scope_of}
use Rattle.paper.specs.Facts.{none_previous, previous_of}
use Rattle.paper.specs.Records as Records
use Rattle.paper.specs.Files.{u16_at, end_at, trailer_of, letters, bad_cache, bad_numbers, node_place, edges_at, loops_at, facts_at, head_end, visits_by, loop_at, fact_end, fact_place, case_of, read_case}
use Rattle.paper.specs.Rules.{rule}
use Rattle.paper.specs.Verdicts.{layout_rules, shape_rules, head_rule, order_rule, row_rules}
use Rattle.paper.specs.OneFact.{words, head_bytes}
use Rattle.paper.specs.Demands.{Bytes}
use Rattle.paper.specs.declared.Refusal.{Refusal}

-- "Nodes, edges, loops and facts in": one number a node (its block), two an edge (from, to), three a loop (first, last, B), in version 2 four (W), four a head (scope, block, l, how many rows
-- the fact brings), eight a row ("its number and all seven slots as they stand, free ones too").
-- "The writer is handed the version with the lists".
pub record FileContent : Type 0 where
  pub version : ℕ
  pub policy : ℕ
  pub ways : ℕ
  pub sets : ℕ
  pub nodes : List ℕ
  pub edges : List ℕ
  pub loops : List ℕ
  pub heads : List ℕ
  pub rows : List ℕ

-- So many numbers of the lists make one record: as many as the file's record has fields, and in a head one more. "Version 1 content carries no W."
abbrev pub per_edge : ℕ
per_edge = length Records.edge_fields

unfoldable pub per_loop : ℕ → ℕ
per_loop version = length (Records.loop_fields version)

abbrev pub per_head : ℕ
per_head = suc (length Records.head_fields)

abbrev pub per_row : ℕ
per_row = length Records.row_fields

-- row r of a list of rows
abbrev pub row_from : List ℕ → ℕ → Row
row_from rows r = record { number = get_or rows (per_row * r) 0; slot = λ k. get_or rows (per_row * r + 1 + k) 0 }

-- How many of each there are: what the trailer will say.
unfoldable pub trailer_in : FileContent → Trailer
trailer_in c =
    record {
      nodes = length c.nodes;
      edges = length c.edges / per_edge;
      loops = length c.loops / per_loop c.version;
      facts = length c.heads / per_head;
      policy = c.policy;
      ways = c.ways;
      sets = c.sets;
      version = c.version;
    }

module _ (c : FileContent) where
  unfoldable pub loop_in : ℕ → Loop
  loop_in j =
      record {
        first = get_or c.loops (per_loop c.version * j) 0;
        last = get_or c.loops (per_loop c.version * j + 1) 0;
        bound = get_or c.loops (per_loop c.version * j + 2) 0;
        visits = visits_by c.version (get_or c.loops (per_loop c.version * j + 3) 0);
      }

  -- how many rows fact i brings, and how many all facts before it
  unfoldable pub rows_named : ℕ → ℕ
  rows_named i = get_or c.heads (per_head * i + 3) 0

  abbrev pub rows_before : ℕ → ℕ
  rows_before i = sum_to rows_named i

  -- row r of all
  abbrev pub row_in : ℕ → Row
  row_in r = row_from c.rows r

  abbrev pub fact_in : ℕ → Fact
  fact_in i =
      record {
        scope = get_or c.heads (per_head * i) 0;
        block = get_or c.heads (per_head * i + 1) 0;
        limit = get_or c.heads (per_head * i + 2) 0;
        row = λ j. row_in (rows_before i + j);
      }

  -- the case that the content is: so its rules are those of a file
  unfoldable pub case_in : Case
  case_in =
      record {
        policy = c.policy;
        ways = c.ways;
        sets = c.sets;
        nodes = (trailer_in c).nodes;
        edges = (trailer_in c).edges;
        loops = (trailer_in c).loops;
        facts = (trailer_in c).facts;
        block = λ v. get_or c.nodes v 0;
        from = λ i. get_or c.edges (per_edge * i) 0;
        to = λ i. get_or c.edges (per_edge * i + 1) 0;
        loop = loop_in;
        fact = fact_in;
      }

-- "Little-endian.": a number as so many bytes
abbrev pub number_bytes : ℕ → ℕ → List ℕ
number_bytes zero x = []
number_bytes (suc zero) x = x ∷ []
number_bytes (suc (suc width)) x = x % 256 ∷ number_bytes (suc width) (x / 256)

-- a record by the widths of its fields, which say where they are read, and their values
abbrev pub record_bytes : List ℕ → List ℕ → List ℕ
record_bytes [] values = []
record_bytes (width ∷ fields) [] = []
record_bytes (width ∷ fields) (x ∷ values) = number_bytes width x ++ record_bytes fields values

-- a loop's numbers, of which version 1 has all but the last
abbrev pub loop_values : Loop → List ℕ
loop_values l = l.first ∷ l.last ∷ l.bound ∷ l.visits ∷ []

unfoldable pub loop_bytes : ℕ → Loop → List ℕ
loop_bytes version l = record_bytes (Records.loop_fields version) (loop_values l)

-- "The last 32 bytes point back": what they say, field by field
abbrev pub trailer_numbers : Trailer → List ℕ
trailer_numbers t =
    node_place 0 ∷ edges_at t ∷ loops_at t ∷ facts_at t ∷ t.nodes ∷ t.edges ∷ t.loops ∷ t.facts ∷ t.policy ∷ t.ways ∷ t.sets ∷ t.version ∷ letters

unfoldable pub trailer_bytes : Trailer → List ℕ
trailer_bytes t = record_bytes Records.trailer_fields (trailer_numbers t)

module _ (c : FileContent) where
  -- fact i's rows, number after number
  abbrev pub rows_in : ℕ → List ℕ
  rows_in i = part c.rows (per_row * rows_before c i) (per_row * rows_named c i)

  -- "facts (16-bit loop number …, 16-bit block, 16-bit l, then 16 bytes a row)"
  unfoldable pub fact_bytes : ℕ → List ℕ
  fact_bytes i = head_bytes (fact_in c i) ++ words (rows_in i)

  -- "case file out": "Sections in order, without gaps", then the trailer
  unfoldable pub file_of : List ℕ
  file_of =
      words c.nodes
      ++ (words c.edges
      ++ (each (λ j. loop_bytes c.version (loop_in c j)) (trailer_in c).loops ++ (each fact_bytes (trailer_in c).facts ++ trailer_bytes (trailer_in c))))

-- n 16-bit numbers of the file from p on
abbrev pub words_at : List ℕ → ℕ → ℕ → List ℕ
words_at f p n = spaced (u16_at f) Records.bits16 p n

module _ (f : List ℕ) (t : Trailer) where
  -- how many rows fact i has: "one row for each node of the scope"
  unfoldable pub rows_at : ℕ → ℕ
  rows_at i = size (scope_of (case_of f t) ((case_of f t).fact i))

  -- the numbers of loop j, of fact i's head and of fact i's rows
  abbrev pub loop_numbers : ℕ → List ℕ
  loop_numbers j = take (per_loop t.version) (loop_values (loop_at f t j))

  abbrev pub head_numbers : ℕ → List ℕ
  head_numbers i = ((case_of f t).fact i).scope ∷ ((case_of f t).fact i).block ∷ ((case_of f t).fact i).limit ∷ rows_at i ∷ []

  abbrev pub row_numbers : ℕ → List ℕ
  row_numbers i = words_at f (head_end (fact_place f t i)) (per_row * rows_at i)

  unfoldable pub content_by : FileContent
  content_by =
      record {
        version = t.version;
        policy = t.policy;
        ways = t.ways;
        sets = t.sets;
        nodes = words_at f (node_place 0) t.nodes;
        edges = words_at f (edges_at t) (per_edge * t.edges);
        loops = each loop_numbers t.loops;
        heads = each head_numbers t.facts;
        rows = each row_numbers t.facts;
      }

-- the content of a file, by its trailer
abbrev pub content_of : List ℕ → FileContent
content_of f = content_by f (trailer_of f)

module _ (e : Case) where
  -- 12, 13, 15 and 16 of fact i, where `short` is the test of 15: of a file "rows cut short", of a content "a wrong number of rows"
  unfoldable pub content_rules : ℕ → Option Previous → Bool → Verdict → Verdict
  content_rules i previous short rest =
      head_rule e i (e.fact i) (order_rule e i previous (e.fact i) (rule 15 i short (row_rules e i (e.fact i) rest)))

  -- "for each fact in turn": n facts, from fact i on
  unfoldable pub in_turn : (ℕ → Option Previous → Verdict → Verdict) → ℕ → ℕ → Option Previous → Verdict → Verdict
  in_turn turn zero i previous rest = rest
  in_turn turn (suc n) i previous rest =
      let after = in_turn turn n (suc i) (previous_of e (e.fact i)) rest in
      turn i previous after

module _ (f : List ℕ) (t : Trailer) where
  -- 11: "fewer than 6 bytes left for a fact"
  unfoldable pub laid_turn : ℕ → Option Previous → Verdict → Verdict
  laid_turn i previous rest =
      rule 11 i (ltb (end_at f) (head_end (fact_place f t i)))
      (content_rules (case_of f t) i previous (ltb (end_at f) (fact_end f t (fact_place f t i))) rest)

  unfoldable pub laid_facts : Verdict → Verdict
  laid_facts rest = in_turn (case_of f t) laid_turn t.facts 0 none_previous (rule 19 0 (ltb (fact_place f t t.facts) (end_at f)) rest)

-- "The layout checks are 1 to 7, 11 to 13, 15, 16 and 19."
abbrev pub layout_verdict : List ℕ → Verdict
layout_verdict f = layout_rules f (shape_rules (read_case f) (laid_facts f (trailer_of f) (Ok tt)))

-- 4, beside the numbers: a list that is not a whole number of records, or a row list that is not eight numbers for each row that the heads name
unfoldable pub bad_lists : FileContent → Bool
bad_lists c =
    not (eqb (length c.edges % per_edge) 0)
    || (not (eqb (length c.loops % per_loop c.version) 0)
    || (not (eqb (length c.heads % per_head) 0) || not (eqb (length c.rows) (per_row * rows_before c (trailer_in c).facts))))

-- "15 standing for a wrong number of rows"
unfoldable pub bad_rows_named : FileContent → ℕ → Bool
bad_rows_named c i = not (eqb (rows_named c i) (size (scope_of (case_in c) ((case_in c).fact i))))

unfoldable pub written_turn : FileContent → ℕ → Option Previous → Verdict → Verdict
written_turn c i previous rest = content_rules (case_in c) i previous (bad_rows_named c i) rest

unfoldable pub written_facts : FileContent → Verdict → Verdict
written_facts c rest = in_turn (case_in c) (written_turn c) (trailer_in c).facts 0 none_previous rest

-- 2, "in the writer too, as its first", 3 and 4
unfoldable pub list_rules : FileContent → Verdict → Verdict
list_rules c rest = rule 2 0 (Records.bad_version c.version) (rule 3 0 (bad_cache (trailer_in c)) (rule 4 0 (bad_lists c || bad_numbers (trailer_in c)) rest))

-- "Refusals, in this order: 3, 4, 6 and 7; then for each fact in turn 12, 13, 15 and 16, with their places …; then 20 if the file does not fit."
unfoldable pub write_verdict : FileContent → ℕ → Verdict
write_verdict c room = list_rules c (shape_rules (case_in c) (written_facts c (rule 20 0 (ltb room (length (file_of c))) (Ok tt))))

-- The answer: how long the file is.
abbrev pub write_answer : FileContent → Verdict → Result ℕ Refusal
write_answer c (Ok tt) = Ok (length (file_of c))
write_answer c (Err r) = Err r

-- "Bytes past the file stay; on a refusal all do."
abbrev pub out_after : FileContent → List ℕ → Verdict → List ℕ
out_after c out (Ok tt) = file_of c ++ drop (length (file_of c)) out
out_after c out (Err r) = out

-- "What it writes passes them and reads back as the same lists"
abbrev pub ReadsBack : FileContent → ℕ → Type 0
ReadsBack c room =
    write_verdict c room ≡ Ok tt → (layout_verdict (file_of c) ≡ Ok tt) × (content_of (file_of c) ≡ c) × (length (file_of c) ≤ room)

-- "and any file that passes them comes out again byte for byte when its content is written, so one content has one file"
abbrev pub WritesBack : List ℕ → Type 0
WritesBack f =
    Bytes f
    → layout_verdict f ≡ Ok tt
    → (file_of (content_of f) ≡ f) × ((room : ℕ) → length f ≤ room → write_verdict (content_of f) room ≡ Ok tt)
