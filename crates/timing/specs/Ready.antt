-- The tables of the loops that are steps already: which step has a node, and how long each takes.
use Rattle.std.specs.Prelude.{ℕ, ◌≤◌, ◌<◌, min, ◌≡◌, List, length, get_or}
use Rattle.paper.specs.declared.Trailer.{Trailer}
use Rattle.paper.specs.Files.{case_of}
use Rattle.paper.specs.Times.{step_loop, time_of}
use Rattle.timing.specs.Pushed.{cut}

-- a list, by its entries
abbrev pub entry : List ℕ → ℕ → ℕ
entry l i = get_or l i 0

-- The loops from number k on are steps.
pub record Ready (f : List ℕ) (trailer : Trailer) (costs : List ℕ) (k : ℕ) (steps times : List ℕ) : Type 0 where
  pub step_room : trailer.nodes ≤ length steps
  pub time_room : trailer.loops ≤ length times
  pub step : (v : ℕ) → v < trailer.nodes → get_or steps v 0 ≡ step_loop (case_of f trailer) k v
  pub time : (j : ℕ) → k ≤ j → j < trailer.loops → get_or times j 0 ≡ min (time_of (case_of f trailer) (entry costs) j) cut
