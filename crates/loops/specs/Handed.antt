-- "The loops are handed on as a list of records: first node, last node, bound." The file's loops stand first among the 64 records.
use Rattle.std.specs.Prelude.{ℕ, ◌<◌, ◌≡◌, List, length, get_or}
use Rattle.paper.specs.declared.Loop.{Loop}
use Rattle.paper.specs.declared.Trailer.{Trailer}
use Rattle.paper.specs.Ceilings.{most_loops}
use Rattle.paper.specs.Files.{loop_at}
use Rattle.loops.specs.Counts.{no_loop}

pub record Handed (f : List ℕ) (trailer : Trailer) (loops : List Loop) : Type 0 where
  pub room : length loops ≡ most_loops
  pub at : (j : ℕ) → j < trailer.loops → get_or loops j no_loop ≡ loop_at f trailer j
