-- The content of a file: its numbers are those of the trailer, and its case is the case that the file holds.
use Prim.Native.Nat.{ℕ, ◌+◌, ◌*◌, ◌/◌, ◌%◌, ◌≤◌, ◌<◌}
use native.Mathlib.Omega.{arith}
use native.Mathlib.Nat.{mul-mod_right, div-eq_of_eq-mul_right}
use mathlib.Core.Path.{◌≡◌, refl, sym, ◌∙◌, ap}
use mathlib.Core.Bool.{false}
use mathlib.Core.List.{List}
use lib.ListN.{length, get_or}
use lib.Seq.{ext_get_or}
use borrow.Author.Tests.{eq-eqb}
use Rattle.paper.specs.declared.Trailer.{Trailer}
use Rattle.paper.specs.Lists.{sum_to, each}
use Rattle.paper.specs.Files.{u16_at, node_at, edges_at, from_at, to_at, loop_at, fact_place, case_of}
use Rattle.paper.specs.Writing.{FileContent, per_loop, trailer_in, loop_in, rows_named, rows_before, case_in, rows_at, loop_numbers, head_numbers, row_numbers, content_by, bad_lists}
use Rattle.paper.proofs.Parts.{stands_self}
use Rattle.paper.proofs.LoopSizes.{per_low, visits_without}
use Rattle.paper.proofs.Spaces.{length_spaced, get_d_spaced}
use Rattle.contents.proofs.Spaced.{sum_same, sum_times, sum_all, length_each}
use Rattle.contents.proofs.Standing.{stands_at}
use Rattle.paper.proofs.SameGraphs.{SameGraph}
use Rattle.paper.proofs.SameFacts.{SameFact}
use Rattle.contents.proofs.SameCases.{SameCase}
use Rattle.contents.proofs.LoopRecords.{values_length, loop_is, loop_part}

-- number k of list i, where every list before it has w numbers
pub each_at : (g : ℕ → List ℕ) (w : ℕ → ℕ) (n i k : ℕ) → ((j : ℕ) → j < n → length (g j) ≡ w j) → i < n → k < w i → get_or (each g n) (sum_to w i + k) 0 ≡ get_or (g i) k 0
each_at g w n i k h l m =
    let e : sum_to w i + k ≡ 0 + length (each g i) + k = omega (arith, length_each g w i (λ j q. h j (omega arith))) in
    ap (λ (p : ℕ). get_or (each g n) p 0) e ∙ (stands_at (each g n) 0 g n i l (stands_self (each g n))).at k (omega (arith, h i l))

-- the same where all have w numbers
pub record_at_lem : (g : ℕ → List ℕ) (w n i k : ℕ) → ((j : ℕ) → j < n → length (g j) ≡ w) → i < n → k < w → get_or (each g n) (w * i + k) 0 ≡ get_or (g i) k 0
record_at_lem g w n i k h l m = ap (λ (p : ℕ). get_or (each g n) (p + k) 0) (sym (sum_all w i)) ∙ each_at g (λ j. w) n i k h l m

module _ (f : List ℕ) (t : Trailer) where
  abbrev c : FileContent
  c = content_by f t

  -- so many numbers has a loop
  abbrev per : ℕ
  per = per_loop t.version

  per_pos : 0 < per
  per_pos = omega (arith, per_low t.version)

  loop_length : (j : ℕ) → j < t.loops → length (loop_numbers f t j) ≡ per
  loop_length j l = values_length t.version (loop_at f t j)

  length_loops : length c.loops ≡ per * t.loops
  unfolding content_by
  length_loops = length_each (loop_numbers f t) (λ j. per) t.loops loop_length ∙ sum_all per t.loops

  length_heads : length c.heads ≡ 4 * t.facts
  unfolding content_by
  length_heads = length_each (head_numbers f t) (λ j. 4) t.facts (λ i l. refl) ∙ sum_all 4 t.facts

  length_edges : length c.edges ≡ 2 * t.edges
  unfolding content_by
  length_edges = length_spaced (u16_at f) 2 (edges_at t) (2 * t.edges)

  length_nodes : length c.nodes ≡ t.nodes
  unfolding content_by
  length_nodes = length_spaced (u16_at f) 2 0 t.nodes

  pub content_trailer : trailer_in c ≡ t
  unfolding trailer_in content_by
  content_trailer =
      let nodes : length c.nodes ≡ t.nodes = length_nodes in
      let edges : length c.edges / 2 ≡ t.edges = omega (arith, length_edges) in
      let loops : length c.loops / per ≡ t.loops = div-eq_of_eq-mul_right per_pos length_loops in
      let facts : length c.heads / 4 ≡ t.facts = omega (arith, length_heads) in
      rw (nodes, edges, loops, facts) refl

  -- the heads name as many rows as the scopes have nodes
  pub content_rows : (i : ℕ) → i < t.facts → rows_named c i ≡ rows_at f t i
  unfolding rows_named content_by
  content_rows i l = record_at_lem (head_numbers f t) 4 t.facts i 3 (λ j q. refl) l (omega arith)

  pub content_before : (i : ℕ) → i ≤ t.facts → rows_before c i ≡ sum_to (rows_at f t) i
  content_before i l = sum_same _ _ i (λ j q. content_rows j (omega arith))

  pub row_length : (i : ℕ) → length (row_numbers f t i) ≡ 8 * rows_at f t i
  row_length i = length_spaced (u16_at f) 2 (fact_place f t i + 6) (8 * rows_at f t i)

  length_rows : length c.rows ≡ 8 * sum_to (rows_at f t) t.facts
  unfolding content_by
  length_rows = length_each (row_numbers f t) (λ i. 8 * rows_at f t i) t.facts (λ i l. row_length i) ∙ sum_times 8 (rows_at f t) t.facts

  -- rule 4's lists are whole
  pub content_lists : bad_lists c ≡ false
  unfolding bad_lists content_by
  content_lists =
      let edges : length c.edges % 2 ≡ 0 = omega (arith, length_edges) in
      let loops : length c.loops % per ≡ 0 = ap (λ (n : ℕ). n % per) length_loops ∙ mul-mod_right per t.loops in
      let heads : length c.heads % 4 ≡ 0 = omega (arith, length_heads) in
      let n : (trailer_in c).facts ≡ t.facts = ap (λ (s : Trailer). s.facts) content_trailer in
      let rows : length c.rows ≡ 8 * rows_before c (trailer_in c).facts = rw n (rw (content_before t.facts (omega arith)) length_rows) in
      rw (edges, loops, heads, eq-eqb _ _ rows) refl

  -- number k of fact i's rows
  pub row_number : (i k : ℕ) → i < t.facts → k < 8 * rows_at f t i → get_or c.rows (8 * rows_before c i + k) 0 ≡ u16_at f (fact_place f t i + 6 + 2 * k)
  unfolding content_by
  row_number i k l m =
      let e : 8 * rows_before c i ≡ sum_to (λ j. 8 * rows_at f t j) i = ap (λ (n : ℕ). 8 * n) (content_before i (omega arith)) ∙ sym (sum_times 8 (rows_at f t) i) in
      ap (λ (p : ℕ). get_or c.rows (p + k) 0) e
      ∙ each_at (row_numbers f t) (λ j. 8 * rows_at f t j) t.facts i k (λ j q. row_length j) l m
      ∙ get_d_spaced (u16_at f) 2 (fact_place f t i + 6) (8 * rows_at f t i) k m

  pub head_number : (i k : ℕ) → i < t.facts → k < 4 → get_or c.heads (4 * i + k) 0 ≡ get_or (head_numbers f t i) k 0
  unfolding content_by
  head_number i k l m = record_at_lem (head_numbers f t) 4 t.facts i k (λ j q. refl) l m

  loop_number : (j k : ℕ) → j < t.loops → k < per → get_or c.loops (per * j + k) 0 ≡ get_or (loop_numbers f t j) k 0
  unfolding content_by
  loop_number j k l m = record_at_lem (loop_numbers f t) per t.loops j k loop_length l m

  node_number : (v : ℕ) → v < t.nodes → get_or c.nodes v 0 ≡ node_at f v
  unfolding content_by node_at
  node_number v l = get_d_spaced (u16_at f) 2 0 t.nodes v l ∙ ap (λ (p : ℕ). u16_at f p) (omega arith)

  edge_number : (k : ℕ) → k < 2 * t.edges → get_or c.edges k 0 ≡ u16_at f (edges_at t + 2 * k)
  unfolding content_by
  edge_number k l = get_d_spaced (u16_at f) 2 (edges_at t) (2 * t.edges) k l

  pub content_loop : (j : ℕ) → j < t.loops → loop_in c j ≡ loop_at f t j
  unfolding loop_in loop_at content_by
  content_loop j l =
      loop_is t.version (loop_in c j) (loop_at f t j) (λ h. visits_without t.version _ h ∙ sym (visits_without t.version _ h))
      (loop_part c j
      ∙ ext_get_or 0 _ _ (length_spaced _ 1 _ _ ∙ sym (loop_length j l))
      (λ k m.
      let n : k < per = omega (arith, length_spaced (λ q. get_or c.loops q 0) 1 (per * j) per) in
      get_d_spaced _ 1 _ _ k n ∙ ap (λ (p : ℕ). get_or c.loops p 0) (omega arith) ∙ loop_number j k l n))

  -- The case of a file's content is the case that the file holds.
  content_graph : SameGraph (case_in c) (case_of f t)
  unfolding case_in case_of from_at to_at content_by
  content_graph =
      let nodes : (trailer_in c).nodes ≡ t.nodes = ap (λ (s : Trailer). s.nodes) content_trailer in
      let edges : (trailer_in c).edges ≡ t.edges = ap (λ (s : Trailer). s.edges) content_trailer in
      let loops : (trailer_in c).loops ≡ t.loops = ap (λ (s : Trailer). s.loops) content_trailer in
      record {
        policy = refl;
        ways = refl;
        sets = refl;
        nodes = nodes;
        edges = edges;
        loops = loops;
        fetch = λ v l. node_number v (omega arith);
        from = λ i l. edge_number (2 * i) (omega arith) ∙ ap (λ (p : ℕ). u16_at f p) (omega arith);
        to = λ i l. edge_number (2 * i + 1) (omega arith) ∙ ap (λ (p : ℕ). u16_at f p) (omega arith);
        loop = λ j l. content_loop j (omega arith);
      }

  content_fact : (i : ℕ) → i < t.facts → SameFact (rows_at f t i) ((case_in c).fact i) ((case_of f t).fact i)
  unfolding case_in case_of content_by
  content_fact i l =
      record {
        scope = ap (λ (p : ℕ). get_or c.heads p 0) (omega arith) ∙ head_number i 0 l (omega arith);
        block = head_number i 1 l (omega arith);
        limit = head_number i 2 l (omega arith);
        rows = λ j m.
            record {
              number = ap (λ (p : ℕ). get_or c.rows p 0) (omega arith) ∙ row_number i (8 * j) l (omega arith) ∙ ap (λ (p : ℕ). u16_at f p) (omega arith);
              slot = λ k n.
                  ap (λ (p : ℕ). get_or c.rows p 0) (omega arith) ∙ row_number i (8 * j + 1 + k) l (omega arith) ∙ ap (λ (p : ℕ). u16_at f p) (omega arith);
            };
      }

  pub content_case : SameCase (rows_at f t) (case_in c) (case_of f t)
  unfolding case_in case_of
  content_case =
      let facts : (trailer_in c).facts ≡ t.facts = ap (λ (s : Trailer). s.facts) content_trailer in
      record { graph = content_graph; facts = facts; fact = λ i l. content_fact i (omega arith) }
