-- What is known of the fact that is sought when the scope's nodes, edges and rows are looked at.
use Rattle.std.specs.Prelude.{ℕ, ◌<◌, ◌≡◌, List, Ok}
use Rattle.paper.specs.declared.Loop.{Loop}
use Rattle.paper.specs.declared.Trailer.{Trailer}
use Rattle.paper.specs.Answers.{Verdict}
use Rattle.paper.specs.Cases.{Fact, scope_of, size}
use Rattle.paper.specs.Files.{trailer_of, case_of}
use Rattle.paper.specs.Known.{Laid}
use Rattle.paper.specs.Verdicts.{layout_rules}
use Rattle.paper.specs.Finding.{sought, find_verdict}
use Rattle.gather.specs.declared.sought.Sought.{Sought}
use Rattle.gather.specs.Seeking.{Seeks}

-- the fact that q seeks, its scope, and how many nodes that has
abbrev pub fact_by : List ℕ → Trailer → Sought → Fact
fact_by f trailer q = sought (case_of f trailer) q.scope q.block

abbrev pub scope_by : List ℕ → Trailer → Sought → Loop
scope_by f trailer q = scope_of (case_of f trailer) (fact_by f trailer q)

abbrev pub nodes_by : List ℕ → Trailer → Sought → ℕ
nodes_by f trailer q = size (scope_by f trailer q)

-- q says what it seeks, and its nodes are the graph's.
pub record Scoped (f : List ℕ) (trailer : Trailer) (q : Sought) : Type 0 where
  pub seeks : Seeks (case_of f trailer) (fact_by f trailer q) q
  pub within : q.last < trailer.nodes

-- The trailer is the file's, which passes rules 1 to 5.
pub record TrailerRead (f : List ℕ) (trailer : Trailer) : Type 0 where
  pub is : trailer ≡ trailer_of f
  pub laid : Laid f trailer
  pub rules : (rest : Verdict) → layout_rules f rest ≡ rest

-- Nothing is refused.
pub record NotRefused (f : List ℕ) (scope block room : ℕ) : Type 0 where
  pub accepted : find_verdict f scope block room ≡ Ok tt
