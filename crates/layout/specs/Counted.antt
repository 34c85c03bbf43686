-- A table that holds each node's count: "the product of B over all loops that contain it".
use Rattle.std.specs.Prelude.{ℕ, ◌≤◌, ◌<◌, ◌≡◌, List, length, get_or}
use Rattle.paper.specs.declared.Trailer.{Trailer}
use Rattle.paper.specs.Graphs.{count}
use Rattle.paper.specs.Files.{case_of}

pub record Counted (f : List ℕ) (trailer : Trailer) (counts : List ℕ) : Type 0 where
  pub room : trailer.nodes ≤ length counts
  pub at : (v : ℕ) → v < trailer.nodes → get_or counts v 0 ≡ count (case_of f trailer) v
