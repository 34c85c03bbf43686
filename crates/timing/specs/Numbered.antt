-- The table of what comes before each node, edge by edge.
use Rattle.std.specs.Prelude.{ℕ, ◌≤◌, ◌<◌, ◌≡◌, List, length, get_or}
use Rattle.paper.specs.Cases.{Case}
use Rattle.timing.specs.Pushed.{cut, before_to}
use Rattle.timing.specs.Ready.{entry}

-- nothing yet
pub record Zeros (n : ℕ) (table : List ℕ) : Type 0 where
  pub room : n ≤ length table
  pub zero : (v : ℕ) → v < n → get_or table v 0 ≡ 0

-- after i edges, for ways that begin at node a
pub record Numbered (e : Case) (cost : ℕ → ℕ) (times : List ℕ) (k a i : ℕ) (table : List ℕ) : Type 0 where
  pub room : e.nodes ≤ length table
  pub at : (v : ℕ) → v < e.nodes → get_or table v 0 ≡ before_to e cost (entry times) cut k a i v
