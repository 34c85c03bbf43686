-- The check "tests 20 first, then 1 to 10 in order, each over the whole file; then for each fact in turn 11 to 18; then 19", with 26 "after 9 and before 10", and 24 and 25 "at 17's old place before 18": the chains of which the verdict is made, each by its name.
use Rattle.std.specs.Prelude.{ℕ, zero, suc, List, ◌++◌, ltb, length, drop, Ok, Err, Option}
use Rattle.paper.specs.declared.Trailer.{Trailer}
use Rattle.paper.specs.declared.Previous.{Previous}
use Rattle.paper.specs.Answers.{Verdict, refuse_at}
use Rattle.paper.specs.Lists.{least, some}
use Rattle.paper.specs.Rules.{rule_by, rule, rule_at}
use Rattle.paper.specs.Cases.{Fact, Case, size, scope_of}
use Rattle.paper.specs.Graphs.{bad_edge, bad_loop, bad_entry, bad_return, dead, bad_count}
use Rattle.paper.specs.Facts.{none_previous, previous_of, bad_head, bad_order, unfetched, bad_row_at, bad_step_at, step_number, bad_many_at, least_node}
use Rattle.paper.specs.Bounds.{list_length, numbers}
use Rattle.paper.specs.Records.{trailer_size}
use Rattle.paper.specs.Files.{end_at, trailer_of, bad_letters, bad_cache, bad_numbers, bad_offsets, facts_at, head_end, fact_at, fact_end, fact_place, case_of, read_case}

-- 1 to 5, the layout; 1: "fewer than 32 bytes"
unfoldable pub layout_rules : List ℕ → Verdict → Verdict
layout_rules f rest =
    rule 1 0 (ltb (length f) trailer_size)
    (rule 2 0 (bad_letters f)
    (rule 3 0 (bad_cache (trailer_of f)) (rule 4 0 (bad_numbers (trailer_of f)) (rule 5 0 (bad_offsets f (trailer_of f)) rest))))

module _ (e : Case) where
  -- 6 and 7, edges and loops by themselves
  unfoldable pub shape_rules : Verdict → Verdict
  shape_rules rest = rule_at 6 (bad_edge e) e.edges (rule_at 7 (bad_loop e) e.loops rest)

  -- 8, 9 and 26, the ways into loops, back, and to each node; 26: "place the least such node"
  unfoldable pub path_rules : Verdict → Verdict
  path_rules rest = rule_at 8 (bad_entry e) e.edges (rule_at 9 (bad_return e) e.edges (rule_at 26 (dead e) e.nodes rest))

  -- 10
  unfoldable pub count_rules : Verdict → Verdict
  count_rules rest = rule_at 10 (bad_count e) e.nodes rest

  abbrev pub graph_rules : Verdict → Verdict
  graph_rules rest = shape_rules (path_rules (count_rules rest))

  -- a fact's rules have its index i as their place
  module _ (i : ℕ) where
    unfoldable pub head_rule : Fact → Verdict → Verdict
    head_rule t rest = rule 12 i (bad_head e t) rest

    unfoldable pub order_rule : Option Previous → Fact → Verdict → Verdict
    order_rule previous t rest = rule 13 i (bad_order e previous t) rest

    unfoldable pub fetch_rule : Fact → Verdict → Verdict
    fetch_rule t rest = rule 14 i (unfetched e t) rest

    -- 16: "a row not sound"; "16 and 18 add the least such node"
    unfoldable pub row_rules : Fact → Verdict → Verdict
    row_rules t rest = rule_by (refuse_at 16 i (least_node e t (bad_row_at e t))) (some (bad_row_at e t) (size (scope_of e t))) rest

    -- 17, 24 and 25, "an edge's rule broken"; "all three add the edge", and "within one fact the least edge decides"
    unfoldable pub step_rules : Fact → Verdict → Verdict
    step_rules t rest =
        let edge = least (bad_step_at e t) e.edges in
        rule_by (refuse_at (step_number e t edge) i edge) (some (bad_step_at e t) e.edges) rest

    -- 18: "a node that fetches b has row 8"
    unfoldable pub many_rules : Fact → Verdict → Verdict
    many_rules t rest = rule_by (refuse_at 18 i (least_node e t (bad_many_at e t))) (some (bad_many_at e t) (size (scope_of e t))) rest

    abbrev pub evidence_rules : Fact → Verdict → Verdict
    evidence_rules t rest = row_rules t (step_rules t (many_rules t rest))

module _ (f : List ℕ) (trailer : Trailer) where
  -- what comes after the head of the fact that stands at p; 15: "rows cut short"
  unfoldable pub body_rules : ℕ → ℕ → Verdict → Verdict
  body_rules i p rest =
      fetch_rule (case_of f trailer) i (fact_at f p) (rule 15 i (ltb (end_at f) (fact_end f trailer p)) (evidence_rules (case_of f trailer) i (fact_at f p) rest))

  -- The turn of fact i, which stands at p, after the previous one; 11: "fewer than 6 bytes left for a fact"
  unfoldable pub turn_rules : ℕ → Option Previous → ℕ → Verdict → Verdict
  turn_rules i previous p rest =
      rule 11 i (ltb (end_at f) (head_end p))
      (head_rule (case_of f trailer) i (fact_at f p) (order_rule (case_of f trailer) i previous (fact_at f p) (body_rules i p rest)))

  -- "for each fact in turn": n facts, from fact i on, which stands at p
  unfoldable pub turns_from : ℕ → ℕ → Option Previous → ℕ → Verdict → Verdict
  turns_from zero i previous p rest = rest
  turns_from (suc n) i previous p rest =
      let after = turns_from n (suc i) (previous_of (case_of f trailer) (fact_at f p)) (fact_end f trailer p) rest in
      turn_rules i previous p after

  -- 11 to 18 for each fact; "then 19": "bytes left between last fact and trailer"
  unfoldable pub fact_rules : Verdict → Verdict
  fact_rules rest = turns_from trailer.facts 0 none_previous (facts_at trailer) (rule 19 0 (ltb (fact_place f trailer trailer.facts) (end_at f)) rest)

-- "1 to 10 in order, each over the whole file", and 26 among them
abbrev pub whole_file_rules : List ℕ → Verdict → Verdict
whole_file_rules f rest = layout_rules f (graph_rules (read_case f) rest)

-- The verdict on a file, without a lent list.
abbrev pub file_verdict : List ℕ → Verdict
file_verdict f = whole_file_rules f (fact_rules f (trailer_of f) (Ok tt))

-- 20: "lent list too short (321)"
unfoldable pub verdict : List ℕ → ℕ → Verdict
verdict f room = rule 20 0 (ltb room list_length) (file_verdict f)

-- "The check writes 321 64-bit numbers to a lent list: …, later ones untouched"; a refusal "changes no lent memory". "The caller hands the greatest number p of such interruptions."
abbrev pub lent_after : List ℕ → ℕ → List ℕ → Verdict → List ℕ
lent_after f p lent (Ok tt) = numbers (read_case f) p ++ drop list_length lent
lent_after f p lent (Err r) = lent
