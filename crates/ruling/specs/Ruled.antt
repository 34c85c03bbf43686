-- Rules 6 to 19 and the 321 numbers, for a file whose trailer has been read.
use Rattle.std.specs.Prelude.{ℕ, ◌≡◌, List, ◌++◌, drop, Ok, Err}
use Rattle.paper.specs.declared.Trailer.{Trailer}
use Rattle.paper.specs.Answers.{Verdict}
use Rattle.paper.specs.Bounds.{list_length, numbers}
use Rattle.paper.specs.Files.{case_of}
use Rattle.paper.specs.Verdicts.{graph_rules, fact_rules}

-- the lent list afterwards
abbrev pub written : List ℕ → Trailer → ℕ → List ℕ → Verdict → List ℕ
written f trailer p lent (Ok tt) = numbers (case_of f trailer) p ++ drop list_length lent
written f trailer p lent (Err r) = lent

pub record Ruled (f : List ℕ) (trailer : Trailer) (p : ℕ) (lent : List ℕ) (r : Verdict) (after : List ℕ) : Type 0 where
  pub answer : r ≡ graph_rules (case_of f trailer) (fact_rules f trailer (Ok tt))
  pub numbers : after ≡ written f trailer p lent r
