-- The places of the facts, as the rules 11 to 15 leave them.
use Rattle.std.specs.Prelude.{ℕ, ◌≤◌, ◌<◌, List}
use Rattle.paper.specs.declared.Trailer.{Trailer}
use Rattle.paper.specs.Files.{end_at, fact_end, fact_place}

-- Each fact's head and rows lie before the trailer.
pub record Placed (f : List ℕ) (trailer : Trailer) : Type 0 where
  pub ends : (i : ℕ) → i < trailer.facts → fact_end f trailer (fact_place f trailer i) ≤ end_at f
