-- The edges, "strictly rising by from": those from the nodes of a scope stand together.
use Rattle.std.specs.Prelude.{ℕ, ◌≤◌, ◌<◌, ◌≡◌, true, List}
use Rattle.paper.specs.declared.Trailer.{Trailer}
use Rattle.paper.specs.Files.{from_at, case_of}
use Rattle.paper.specs.Facts.{bad_step_at}
use Rattle.evidence.specs.declared.Head.{Head}
use Rattle.evidence.specs.Stands.{fact_of}

-- The edges before `low` come from nodes before v, and those from `high` on do not.
pub record Splits (f : List ℕ) (trailer : Trailer) (v low high : ℕ) : Type 0 where
  pub meets : low ≤ high
  pub within : high ≤ trailer.edges
  pub below : (i : ℕ) → i < low → from_at f trailer i < v
  pub above : (i : ℕ) → high ≤ i → i < trailer.edges → v ≤ from_at f trailer i

-- Edge i comes from u, a node of the scope.
pub record From (f : List ℕ) (trailer : Trailer) (h : Head) (i u : ℕ) : Type 0 where
  pub there : i < trailer.edges
  pub from_is : u ≡ from_at f trailer i
  pub low : h.first ≤ u
  pub high : u ≤ h.last

-- Edge i breaks its rule.
pub record BadStep (f : List ℕ) (trailer : Trailer) (h : Head) (i : ℕ) : Type 0 where
  pub there : i < trailer.edges
  pub bad : bad_step_at (case_of f trailer) (fact_of f h) i ≡ true
