-- What the sets' bounds are made of: the file is laid out and lawful, and the tables hold the sums of all its facts, for p interruptions, and of all its nodes.
use Rattle.std.specs.Prelude.{ℕ, List}
use Rattle.paper.specs.declared.Trailer.{Trailer}
use Rattle.paper.specs.Files.{case_of}
use Rattle.paper.specs.Known.{Laid}
use Rattle.charge.specs.ReadyFile.{Lawful}
use Rattle.charge.specs.Tables.{FactsAdded, NodesAdded}

pub record Summed (f : List ℕ) (trailer : Trailer) (p : ℕ) (charged entered fetched spent : List ℕ) : Type 0 where
  pub laid : Laid f trailer
  pub lawful : Lawful (case_of f trailer)
  pub facts : FactsAdded (case_of f trailer) p trailer.facts charged entered
  pub nodes : NodesAdded (case_of f trailer) trailer.nodes fetched spent
