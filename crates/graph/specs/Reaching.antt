-- Rule 26 by one pass over the edges in file order, in place of a search for a way to each node.
use Rattle.std.specs.Prelude.{ℕ, zero, suc, Bool, ◌&&◌, ◌||◌, eqb}
use Rattle.paper.specs.Cases.{Case}

-- Whether node v is marked after the first i edges, where node 0 is marked at first, and an edge that starts at a marked node marks its end.
unfoldable pub reached_to : Case → ℕ → ℕ → Bool
reached_to e v zero = eqb v 0
reached_to e v (suc i) = reached_to e v i || (reached_to e (e.from i) i && eqb v (e.to i))
