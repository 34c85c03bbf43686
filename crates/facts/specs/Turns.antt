-- "then for each fact in turn 11 to 18": what a fact's turn tells.
use Rattle.std.specs.Prelude.{ℕ, ◌≤◌, ◌≡◌, List, Result, Ok, Err, Some}
use Rattle.paper.specs.declared.Trailer.{Trailer}
use Rattle.paper.specs.Answers.{Verdict}
use Rattle.paper.specs.Files.{end_at, fact_at, fact_end, case_of}
use Rattle.paper.specs.Facts.{previous_of}
use Rattle.facts.specs.declared.Names.{Names}
use Rattle.facts.specs.declared.Kept.{Kept}
use Rattle.paper.specs.declared.Refusal.{Refusal}

-- what the fact that stands at p names
abbrev pub names_at : List ℕ → ℕ → Names
names_at f p = record { scope = (fact_at f p).scope; block = (fact_at f p).block; limit = (fact_at f p).limit }

abbrev pub verdict_of : Result Kept Refusal → Verdict
verdict_of (Ok kept) = Ok tt
verdict_of (Err r) = Err r

-- After the fact that stands at p: what it is to the next one, and where that one stands.
pub record Next (f : List ℕ) (trailer : Trailer) (p : ℕ) (kept : Kept) : Type 0 where
  pub previous_is : Some kept.previous ≡ previous_of (case_of f trailer) (fact_at f p)
  pub end_is : kept.end ≡ fact_end f trailer p
  pub room : kept.end ≤ end_at f

-- The fact that stands at p is judged by the chain: it is refused as the chain refuses, or it is kept.
pub record Told (f : List ℕ) (trailer : Trailer) (p : ℕ) (chain : Verdict → Verdict) (r : Result Kept Refusal) : Type 0 where
  pub verdict : verdict_of r ≡ chain (Ok tt)
  pub next : (kept : Kept) → r ≡ Ok kept → Next f trailer p kept
