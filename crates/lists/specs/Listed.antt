-- The lists that are handed over, as one content; the case that some of them tell of; and what is known of them as the rules are passed.
use Rattle.std.specs.Prelude.{ℕ, ◌+◌, ◌*◌, ◌%◌, ◌≤◌, ◌<◌, ◌≡◌, false, List, [], length, get_or}
use Rattle.paper.specs.declared.Trailer.{Trailer}
use Rattle.paper.specs.declared.Loop.{Loop}
use Rattle.paper.specs.declared.Sets.{Sets}
use Rattle.paper.specs.Cases.{Row, Fact, Case}
use Rattle.paper.specs.Files.{visits_by}
use Rattle.paper.specs.Ceilings.{most_nodes, most_edges, most_loops, most_facts}
use Rattle.paper.specs.Writing.{FileContent, per_loop, trailer_in, loop_in, rows_before, fact_in, bad_lists}
use Rattle.evidence.specs.declared.Head.{Head}

-- the lists, and the trailer's word for the cache
abbrev pub content : Trailer → List ℕ → List ℕ → List ℕ → List ℕ → List ℕ → FileContent
content t nodes edges loops heads rows =
    record {
      version = t.version;
      policy = t.policy;
      ways = t.ways;
      sets = t.sets;
      nodes = nodes;
      edges = edges;
      loops = loops;
      heads = heads;
      rows = rows;
    }

-- the lists alone, for rule 4
abbrev pub plain : ℕ → List ℕ → List ℕ → List ℕ → List ℕ → List ℕ → FileContent
plain version nodes edges loops heads rows =
    record { version = version; policy = 0; ways = 0; sets = 0; nodes = nodes; edges = edges; loops = loops; heads = heads; rows = rows }

-- The case that the lists tell of. What a rule does not look at is left out: an empty list, and no blocks.
abbrev pub told : Trailer → List ℕ → List ℕ → List ℕ → List ℕ → Case
told t edges loops heads rows =
    record {
      policy = t.policy;
      ways = t.ways;
      sets = t.sets;
      nodes = t.nodes;
      edges = t.edges;
      loops = t.loops;
      facts = t.facts;
      block = λ v. 0;
      from = λ i. get_or edges (2 * i) 0;
      to = λ i. get_or edges (2 * i + 1) 0;
      loop = loop_in (content t [] [] loops [] []);
      fact = fact_in (content t [] [] [] heads rows);
    }

-- what the rules of a fact look at
abbrev pub fact_case : Trailer → List ℕ → List ℕ → List ℕ → Case
fact_case t loops heads rows = told t [] loops heads rows

-- loop j of the list
abbrev pub loop_at : ℕ → List ℕ → ℕ → Loop
loop_at version loops j =
    record {
      first = get_or loops (per_loop version * j) 0;
      last = get_or loops (per_loop version * j + 1) 0;
      bound = get_or loops (per_loop version * j + 2) 0;
      visits = visits_by version (get_or loops (per_loop version * j + 3) 0);
    }

-- the row whose eight numbers stand from `at` on
abbrev pub row_at : List ℕ → ℕ → Row
row_at rows at = record { number = get_or rows at 0; slot = λ k. get_or rows (at + 1 + k) 0 }

-- the fact that a head speaks of: its rows are those from the head's place on
abbrev pub fact_of : List ℕ → Head → Fact
fact_of rows h = record { scope = 0; block = h.block; limit = h.limit; row = λ j. row_at rows (8 * (h.place + j)) }

-- what a row is judged by, besides the head
abbrev pub row_case : Trailer → Case
row_case t = told t [] [] [] []

-- A set of n blocks stands from `at` on.
pub record SetAt (rows : List ℕ) (at n : ℕ) : Type 0 where
  pub room : at + 8 ≤ length rows
  pub few : n < 8
  pub number : n ≡ get_or rows at 0

-- The number of sets is the trailer's, and where the fact's block lives.
pub record Judged (t : Trailer) (sets : Sets) (h : Head) : Type 0 where
  pub count : sets.count ≡ t.sets
  pub home : h.home ≡ h.block % t.sets

-- Rules 2 to 4 are passed: the lists are whole and the numbers small.
pub record Listed (c : FileContent) (t : Trailer) : Type 0 where
  pub is : t ≡ trailer_in c
  pub lists : bad_lists c ≡ false
  pub nodes : length c.nodes ≡ t.nodes
  pub edges : length c.edges ≡ 2 * t.edges
  pub loops : length c.loops ≡ per_loop t.version * t.loops
  pub heads : length c.heads ≡ 4 * t.facts
  pub rows : length c.rows ≡ 8 * rows_before c t.facts
  pub nodes_low : 1 ≤ t.nodes
  pub nodes_high : t.nodes ≤ most_nodes
  pub edges_high : t.edges ≤ most_edges
  pub loops_high : t.loops ≤ most_loops
  pub facts_high : t.facts ≤ most_facts
  pub sets_low : 0 < t.sets
  pub sets_high : t.sets ≤ 64

-- What is known when the facts are judged: rules 2 to 4 and 7 are passed.
pub record Facts (t : Trailer) (loops heads rows : List ℕ) : Type 0 where
  pub nodes_low : 1 ≤ t.nodes
  pub nodes_high : t.nodes ≤ most_nodes
  pub loops_whole : length loops ≡ per_loop t.version * t.loops
  pub heads_whole : length heads ≡ 4 * t.facts
  pub rows_whole : length rows ≡ 8 * rows_before (content t [] [] [] heads rows) t.facts
  pub sets_low : 0 < t.sets
  pub sets_high : t.sets ≤ 64
  pub fits : (j : ℕ) → j < t.loops → ((loop_at t.version loops j).first ≤ (loop_at t.version loops j).last) × ((loop_at t.version loops j).last < t.nodes)
