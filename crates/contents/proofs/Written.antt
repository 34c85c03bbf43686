-- The sections of the written file: where each stands, and how long it is.
use Prim.Native.Nat.{ℕ, zero, suc, ◌+◌, ◌*◌, ◌%◌}
use native.Mathlib.Omega.{arith}
use native.Mathlib.Nat.{div-add-mod}
use mathlib.Core.Path.{◌≡◌, refl, ◌∙◌}
use mathlib.Core.Bool.{false, not}
use mathlib.Core.List.{List, ◌++◌}
use lib.Dec.{eqb}
use lib.ListN.{length, get_or, length-append}
use borrow.Author.Tests.{eqb-true, not-false}
use Rattle.paper.specs.declared.Trailer.{Trailer}
use Rattle.paper.specs.Lists.{sum_to, each}
use Rattle.paper.specs.Records.{loop_size}
use Rattle.paper.specs.Files.{end_at, edges_at, loops_at, facts_at}
use Rattle.paper.specs.OneFact.{words, head_bytes}
use Rattle.paper.specs.Writing.{FileContent, per_loop, trailer_in, loop_in, rows_named, rows_before, fact_in, loop_bytes, trailer_bytes, rows_in, fact_bytes, file_of, bad_lists}
use Rattle.paper.proofs.Says.{neither}
use Rattle.paper.proofs.Parts.{Stands, stands_self, stands_right, stands_move}
use Rattle.paper.proofs.Sections.{length_words}
use Rattle.paper.proofs.Spaces.{length_spaced}
use Rattle.contents.proofs.Spaced.{sum_all, length_each}
use Rattle.contents.proofs.Fields.{length_head}
use Rattle.contents.proofs.LoopRecords.{loop_length}
use Rattle.contents.proofs.Trailers.{length_trailer}

-- 4: the lists are whole numbers of records
pub record Whole (c : FileContent) : Type 0 where
  pub edges : length c.edges ≡ 2 * (trailer_in c).edges
  pub loops : length c.loops ≡ per_loop c.version * (trailer_in c).loops
  pub heads : length c.heads ≡ 4 * (trailer_in c).facts
  pub rows : length c.rows ≡ 8 * rows_before c (trailer_in c).facts

pub lists_whole : (c : FileContent) → bad_lists c ≡ false → Whole c
unfolding bad_lists trailer_in
lists_whole c h =
    let a = neither (not (eqb (length c.edges % 2) 0)) _ h in
    let p = per_loop c.version in
    let b = neither (not (eqb (length c.loops % p) 0)) _ a.1 in
    let d = neither (not (eqb (length c.heads % 4) 0)) _ b.1 in
    let edges : length c.edges % 2 ≡ 0 = eqb-true _ _ (not-false _ a.0) in
    let loops : length c.loops % p ≡ 0 = eqb-true _ _ (not-false _ b.0) in
    let heads : length c.heads % 4 ≡ 0 = eqb-true _ _ (not-false _ d.0) in
    record { edges = omega arith; loops = omega (arith, div-add-mod (length c.loops) p); heads = omega arith; rows = eqb-true _ _ (not-false _ d.1) }

module _ (c : FileContent) where
  abbrev f : List ℕ
  f = file_of c

  abbrev t : Trailer
  t = trailer_in c

  abbrev loops_part : ℕ → List ℕ
  loops_part n = each (λ j. loop_bytes c.version (loop_in c j)) n

  abbrev facts_part : ℕ → List ℕ
  facts_part n = each (fact_bytes c) n

  pub loops_length : (n : ℕ) → length (loops_part n) ≡ loop_size c.version * n
  loops_length n =
      let size = loop_size c.version in
      length_each (λ j. loop_bytes c.version (loop_in c j)) (λ j. size) n (λ j l. loop_length c.version (loop_in c j)) ∙ sum_all size n

  pub fact_length : (i : ℕ) → length (fact_bytes c i) ≡ 6 + 16 * rows_named c i
  unfolding fact_bytes
  fact_length i =
      length-append (head_bytes (fact_in c i)) (words (rows_in c i))
      ∙ omega (arith, length_words (rows_in c i), length_head (fact_in c i), length_spaced (λ q. get_or c.rows q 0) 1 (8 * rows_before c i) (8 * rows_named c i))

  pub facts_length : (n : ℕ) → length (facts_part n) ≡ 6 * n + 16 * rows_before c n
  unfolding each sum_to
  facts_length zero = refl
  facts_length (suc n) = omega (arith, length-append (facts_part n) (fact_bytes c n), fact_length n, facts_length n)

  module _ (w : Whole c) where
    -- the sections, one after another
    pub edges_part : Stands f (edges_at t) (words c.edges ++ (loops_part t.loops ++ (facts_part t.facts ++ trailer_bytes t)))
    unfolding file_of trailer_in
    edges_part = stands_move f _ (omega (arith, length_words c.nodes)) (stands_right f 0 (words c.nodes) _ (stands_self f))

    pub loops_part_lem : Stands f (loops_at t) (loops_part t.loops ++ (facts_part t.facts ++ trailer_bytes t))
    loops_part_lem = stands_move f _ (omega (arith, length_words c.edges, w.edges)) (stands_right f (edges_at t) (words c.edges) _ edges_part)

    pub facts_part_lem : Stands f (facts_at t) (facts_part t.facts ++ trailer_bytes t)
    unfolding trailer_in
    facts_part_lem = stands_move f _ (omega (arith, loops_length t.loops)) (stands_right f (loops_at t) (loops_part t.loops) _ loops_part_lem)

    pub file_length : length f ≡ facts_at t + length (facts_part t.facts) + 32
    unfolding file_of trailer_in
    file_length =
        omega (
          arith,
          length-append (words c.nodes) (words c.edges ++ (loops_part t.loops ++ (facts_part t.facts ++ trailer_bytes t))),
          length-append (words c.edges) (loops_part t.loops ++ (facts_part t.facts ++ trailer_bytes t)),
          length-append (loops_part t.loops) (facts_part t.facts ++ trailer_bytes t),
          length-append (facts_part t.facts) (trailer_bytes t),
          length_words c.nodes,
          length_words c.edges,
          w.edges,
          loops_length t.loops,
          length_trailer t,
        )

    pub trailer_part : Stands f (end_at f) (trailer_bytes t)
    trailer_part = stands_move f _ (omega (arith, file_length)) (stands_right f (facts_at t) (facts_part t.facts) _ facts_part_lem)

-- How long the file will be, before a byte of it is written.
pub written_length : (c : FileContent) → bad_lists c ≡ false → length (file_of c) ≡ facts_at (trailer_in c) + 6 * (trailer_in c).facts + 2 * length c.rows + 32
written_length c h =
    let w = lists_whole c h in
    omega (arith, file_length c w, facts_length c (trailer_in c).facts, w.rows)
