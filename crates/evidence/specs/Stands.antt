-- What is known of the fact at hand when its nodes, rows and edges are looked at.
use Rattle.std.specs.Prelude.{ℕ, suc, ◌-◌, ◌%◌, ◌≤◌, ◌<◌, ◌≡◌, false, List}
use Rattle.paper.specs.declared.Trailer.{Trailer}
use Rattle.paper.specs.declared.Loop.{Loop}
use Rattle.paper.specs.declared.Sets.{Sets}
use Rattle.paper.specs.Cases.{Fact, range_of}
use Rattle.paper.specs.Files.{end_at, row_place, loop_at, fact_at, case_of}
use Rattle.paper.specs.Facts.{bad_row_at}
use Rattle.evidence.specs.declared.Head.{Head}

-- the scope of the fact that stands at p
abbrev pub scope_at : List ℕ → Trailer → ℕ → Loop
scope_at f trailer p = range_of trailer.nodes (loop_at f trailer) (fact_at f p).scope

-- the fact itself
abbrev pub fact_of : List ℕ → Head → Fact
fact_of f h = fact_at f h.place

-- how many nodes its scope has
abbrev pub nodes_of : Head → ℕ
nodes_of h = suc h.last - h.first

-- The head is that of the fact that stands at its place, and the scope is a range of nodes of the graph.
pub record Stands (f : List ℕ) (trailer : Trailer) (h : Head) : Type 0 where
  pub first : h.first ≡ (scope_at f trailer h.place).first
  pub last : h.last ≡ (scope_at f trailer h.place).last
  pub block : h.block ≡ (fact_of f h).block
  pub limit : h.limit ≡ (fact_of f h).limit
  pub home : h.home ≡ h.block % trailer.sets
  pub rises : h.first ≤ h.last
  pub within : h.last < trailer.nodes

-- The number of sets is the trailer's.
pub record Ready (trailer : Trailer) (sets : Sets) : Type 0 where
  pub count : sets.count ≡ trailer.sets

-- Rule 15 is passed: its rows end before the trailer.
pub record Whole (f : List ℕ) (h : Head) : Type 0 where
  pub room : row_place h.place (nodes_of h) ≤ end_at f

-- Rule 16 is passed: its rows are sound.
pub record SoundRows (f : List ℕ) (trailer : Trailer) (h : Head) : Type 0 where
  pub sound : (j : ℕ) → j < nodes_of h → bad_row_at (case_of f trailer) (fact_of f h) j ≡ false
