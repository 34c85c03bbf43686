-- The paper's file as a content: it is written as the paper's bytes and read back, and so is one with W; and each of the writer's refusals once, with its place. By computation.
use Rattle.std.specs.Prelude.{Ok, Err}
use Prim.Native.Nat.{ℕ}
use mathlib.Core.Path.{◌≡◌, refl}
use mathlib.Core.Bool.{Bool, true, ◌&&◌}
use mathlib.Core.List.{List, [], ◌∷◌, ◌++◌}
use lib.Dec.{eqb}
use lib.ListN.{replicate}
use Rattle.paper.specs.Answers.{Verdict}
use Rattle.paper.specs.Lists.{least_from, least, some, sum_to, each, spaced}
use Rattle.paper.specs.Machines.{none, offered, set_count, in_range}
use Rattle.paper.specs.Cases.{range_of, same_set}
use Rattle.paper.specs.Graphs.{rises_from, crosses, wrong_edge, wrong_loop, bad_edge, bad_loop}
use Rattle.paper.specs.Facts.{held, wrong_head, bad_head, wrong_order, bad_order, bad_slot, bad_row, bad_row_at, least_node}
use Rattle.paper.specs.Records.{without_w, with_w, bad_version, loop_fields, loop_size}
use Rattle.paper.specs.Files.{u16_at, u32_at, trailer_of, bad_letter, bad_letters, bad_cache, bad_numbers, bad_offsets, visits_by, node_at, from_at, to_at, loop_at, fact_end, fact_place, case_of}
use Rattle.paper.specs.Checked.{paper_file}
use Rattle.paper.specs.Verdicts.{layout_rules, shape_rules, head_rule, order_rule, row_rules}
use Rattle.paper.specs.OneFact.{words}
use Rattle.paper.specs.Writing.{FileContent, per_loop, trailer_in, loop_in, rows_named, case_in, loop_bytes, trailer_bytes, fact_bytes, file_of, rows_at, content_by, content_of, content_rules, in_turn, laid_turn, laid_facts, layout_verdict, bad_lists, bad_rows_named, written_turn, written_facts, list_rules, write_verdict}

-- a row of no blocks, of one, and the free slots after them
abbrev free : ℕ → List ℕ
free n = replicate n none

abbrev no_block : List ℕ
no_block = 0 ∷ free 7

abbrev one_block : ℕ → List ℕ
one_block b = 1 ∷ b ∷ free 6

-- the paper's file in this version, with this cache, these edges, loops and heads, and this first row
abbrev content_in : ℕ → ℕ → List ℕ → List ℕ → List ℕ → List ℕ → FileContent
content_in version policy edges loops heads row =
    record {
      version = version;
      policy = policy;
      ways = 2;
      sets = 1;
      nodes = none ∷ 5 ∷ 6 ∷ none ∷ [];
      edges = edges;
      loops = loops;
      heads = heads;
      rows = row ++ (no_block ++ (no_block ++ one_block 5));
    }

abbrev content_with : ℕ → List ℕ → List ℕ → List ℕ → List ℕ → FileContent
content_with = content_in without_w

abbrev paper_edges : List ℕ
paper_edges = 0 ∷ 1 ∷ 1 ∷ 2 ∷ 2 ∷ 1 ∷ 2 ∷ 3 ∷ []

abbrev paper_loops : List ℕ
paper_loops = 1 ∷ 2 ∷ 10 ∷ []

abbrev paper_heads : List ℕ
paper_heads = 0 ∷ 5 ∷ 2 ∷ 2 ∷ 0 ∷ 6 ∷ 2 ∷ 2 ∷ []

abbrev paper_content : FileContent
paper_content = content_with 1 paper_edges paper_loops paper_heads (one_block 6)

paper_written : file_of paper_content ≡ paper_file 1
unfolding sum_to each spaced words loop_fields loop_size visits_by per_loop trailer_in loop_in rows_named case_in loop_bytes trailer_bytes fact_bytes file_of
paper_written = refl

paper_read : content_of (paper_file 1) ≡ paper_content
unfolding least_from least some sum_to each spaced loop_fields loop_size visits_by u16_at u32_at trailer_of range_of loop_at fact_end fact_place case_of per_loop rows_at content_by
paper_read = refl

-- the same in version 2, with this W
abbrev limited : ℕ → FileContent
limited W = content_in with_w 1 paper_edges (1 ∷ 2 ∷ 10 ∷ W ∷ []) paper_heads (one_block 6)

limited_read : content_of (file_of (limited 7)) ≡ limited 7
unfolding least_from least some sum_to each spaced words loop_fields loop_size visits_by u16_at u32_at trailer_of range_of loop_at fact_end fact_place case_of per_loop trailer_in loop_in rows_named case_in loop_bytes trailer_bytes fact_bytes file_of rows_at content_by
limited_read = refl

-- a content, a room, and the number and places of the answer, all 0 where the file is written
abbrev Answered : Type 0
Answered = FileContent × ℕ × ℕ × ℕ × ℕ

abbrev same_answer : Verdict → ℕ → ℕ → ℕ → Bool
same_answer (Ok tt) number place second = eqb number 0 && (eqb place 0 && eqb second 0)
same_answer (Err r) number place second = eqb r.number number && (eqb r.place place && eqb r.second second)

abbrev all_answer : List Answered → Bool
all_answer [] = true
all_answer (a ∷ l) = same_answer (write_verdict a.0 a.1) a.2 a.3 a.4 && all_answer l

-- the paper's content with these heads and this first row
abbrev facts_with : List ℕ → List ℕ → FileContent
facts_with heads row = content_with 1 paper_edges paper_loops heads row

abbrev answers : List Answered
answers =
    (paper_content, 140, 0, 0, 0)
    ∷ (paper_content, 139, 20, 0, 0)
    -- four bytes more for W; a version that there is not, before all else; W = 0; three numbers for four
    ∷ (limited 7, 144, 0, 0, 0)
    ∷ (limited 7, 143, 20, 0, 0)
    ∷ (content_in 3 4 paper_edges paper_loops paper_heads (one_block 6), 140, 2, 0, 0)
    ∷ (limited 0, 144, 7, 0, 0)
    ∷ (content_in with_w 1 paper_edges paper_loops paper_heads (one_block 6), 144, 4, 0, 0)
    -- as the tree, and a policy above it
    ∷ (content_with 3 paper_edges paper_loops paper_heads (one_block 6), 140, 0, 0, 0)
    ∷ (content_with 4 paper_edges paper_loops paper_heads (one_block 6), 140, 3, 0, 0)
    -- half an edge; rows that no head names
    ∷ (content_with 1 (0 ∷ 1 ∷ 1 ∷ []) paper_loops paper_heads (one_block 6), 140, 4, 0, 0)
    ∷ (facts_with (0 ∷ 5 ∷ 2 ∷ 2 ∷ []) (one_block 6), 140, 4, 0, 0)
    -- an edge that does not rise; a loop that does not end at a node
    ∷ (content_with 1 (0 ∷ 1 ∷ 1 ∷ 2 ∷ 1 ∷ 2 ∷ 2 ∷ 3 ∷ []) paper_loops paper_heads (one_block 6), 140, 6, 2, 0)
    ∷ (content_with 1 paper_edges (1 ∷ 70000 ∷ 10 ∷ []) paper_heads (one_block 6), 140, 7, 0, 0)
    -- a scope that is no loop; blocks that fall; three rows and one for two and two; a row of node 1 that holds the fact's block
    ∷ (facts_with (0 ∷ 5 ∷ 2 ∷ 2 ∷ 1 ∷ 6 ∷ 2 ∷ 2 ∷ []) (one_block 6), 140, 12, 1, 0)
    ∷ (facts_with (0 ∷ 5 ∷ 2 ∷ 2 ∷ 0 ∷ 4 ∷ 2 ∷ 2 ∷ []) (one_block 6), 140, 13, 1, 0)
    ∷ (facts_with (0 ∷ 5 ∷ 2 ∷ 3 ∷ 0 ∷ 6 ∷ 2 ∷ 1 ∷ []) (one_block 6), 140, 15, 0, 0)
    ∷ (facts_with paper_heads (one_block 5), 140, 16, 0, 1)
    -- fact 0's row comes before fact 1's scope
    ∷ (facts_with (0 ∷ 5 ∷ 2 ∷ 2 ∷ 1 ∷ 6 ∷ 2 ∷ 2 ∷ []) (one_block 5), 140, 16, 0, 1)
    ∷ []

answers_hold : all_answer answers ≡ true
unfolding least_from least some sum_to each spaced offered set_count in_range range_of same_set rises_from crosses wrong_edge wrong_loop bad_edge bad_loop held wrong_head bad_head wrong_order bad_order bad_slot bad_row bad_row_at least_node bad_cache bad_numbers words bad_version loop_fields loop_size visits_by per_loop trailer_in loop_in rows_named case_in loop_bytes trailer_bytes fact_bytes file_of shape_rules head_rule order_rule row_rules content_rules in_turn bad_lists bad_rows_named written_turn written_facts list_rules write_verdict
answers_hold = refl

-- the paper's file passes the layout rules
paper_laid : layout_verdict (paper_file 1) ≡ Ok tt
unfolding least_from least some sum_to each spaced offered set_count in_range range_of same_set rises_from crosses wrong_edge wrong_loop bad_edge bad_loop held wrong_head bad_head wrong_order bad_order bad_slot bad_row bad_row_at least_node bad_version loop_fields loop_size visits_by u16_at u32_at trailer_of bad_letter bad_letters bad_cache bad_numbers bad_offsets node_at from_at to_at loop_at fact_end fact_place case_of layout_rules shape_rules head_rule order_rule row_rules content_rules in_turn laid_turn laid_facts
paper_laid = refl
