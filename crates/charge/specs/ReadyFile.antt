-- What the charge asks of a file: it is laid out, its loops and heads are sound, and its counts are there.
use Rattle.std.specs.Prelude.{ℕ, ◌≤◌, ◌<◌, List}
use Rattle.paper.specs.declared.Trailer.{Trailer}
use Rattle.paper.specs.Cases.{Case}
use Rattle.paper.specs.Graphs.{count}
use Rattle.paper.specs.Files.{case_of}
use Rattle.paper.proofs.Meaning.{SoundHead}
use Rattle.paper.specs.Known.{Laid}
use Rattle.layout.specs.Counted.{Counted}
use Rattle.charge.specs.Placed.{Placed}

-- What is taken of `Sound`: loops are ranges of nodes, "headers strictly rise", two loops are nested or apart, counts fit 32 bits, and each fact's head is sound. It names no walk and no edge, so that a struct can say it.
pub record Lawful (e : Case) : Type 0 where
  pub fits : (j : ℕ) → j < e.loops → ((e.loop j).first ≤ (e.loop j).last) × ((e.loop j).last < e.nodes)
  pub rises : (i j : ℕ) → i < j → j < e.loops → (e.loop i).first < (e.loop j).first
  pub nested : (i j : ℕ) → i < j → j < e.loops → (e.loop j).first ≤ (e.loop i).last → (e.loop j).last ≤ (e.loop i).last
  pub counts : (v : ℕ) → v < e.nodes → count e v ≤ 4294967295
  pub heads : (i : ℕ) → i < e.facts → SoundHead e (e.fact i)

pub record Ready (f : List ℕ) (trailer : Trailer) (counts : List ℕ) : Type 0 where
  pub laid : Laid f trailer
  pub lawful : Lawful (case_of f trailer)
  pub placed : Placed f trailer
  pub counted : Counted f trailer counts
