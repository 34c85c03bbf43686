-- What chains of rules that are passed say of a file and of its case: the contracts of all that comes after them speak of these two records.
use Rattle.std.specs.Prelude.{ℕ, suc, ◌≤◌, ◌<◌, ◌≡◌, true, List, length}
use Rattle.paper.specs.declared.Trailer.{Trailer}
use Rattle.paper.specs.Machines.{in_range}
use Rattle.paper.specs.Cases.{Case}
use Rattle.paper.specs.Ceilings.{most_nodes, most_edges, most_loops, most_facts}
use Rattle.paper.specs.Records.{trailer_size}
use Rattle.paper.specs.Files.{end_at, facts_at}

-- The file is laid out as its trailer says: every section is there, and the numbers are small.
pub record Laid (f : List ℕ) (trailer : Trailer) : Type 0 where
  pub long : trailer_size ≤ length f
  pub room : facts_at trailer ≤ end_at f
  pub nodes_low : 1 ≤ trailer.nodes
  pub nodes_high : trailer.nodes ≤ most_nodes
  pub edges_high : trailer.edges ≤ most_edges
  pub loops_high : trailer.loops ≤ most_loops
  pub facts_high : trailer.facts ≤ most_facts
  pub ways_high : trailer.ways ≤ 8
  pub sets_low : 1 ≤ trailer.sets
  pub sets_high : trailer.sets ≤ 64
  pub cache : in_range trailer.policy trailer.ways trailer.sets ≡ true

-- Edges end at nodes and come by rising sources; loops are ranges of nodes with limits above 0, come by rising headers, and are nested or apart.
pub record Shaped (e : Case) : Type 0 where
  pub ends : (i : ℕ) → i < e.edges → (e.from i < e.nodes) × (e.to i < e.nodes)
  pub climbs : (i : ℕ) → suc i < e.edges → e.from i ≤ e.from (suc i)
  pub fits : (j : ℕ) → j < e.loops → ((e.loop j).first ≤ (e.loop j).last) × ((e.loop j).last < e.nodes) × (1 ≤ (e.loop j).bound)
  pub limited : (j : ℕ) → j < e.loops → 1 ≤ (e.loop j).visits
  pub rises : (i j : ℕ) → i < j → j < e.loops → (e.loop i).first < (e.loop j).first
  pub nested : (i j : ℕ) → i < j → j < e.loops → (e.loop j).first ≤ (e.loop i).last → (e.loop j).last ≤ (e.loop i).last
