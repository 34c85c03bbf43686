-- "then for each fact in turn 12, 13, 15 and 16": the chain of a fact of the lists, and what its turn tells.
use Rattle.std.specs.Prelude.{ℕ, suc, ◌+◌, ◌*◌, ◌%◌, ◌≤◌, ◌<◌, ◌≡◌, Bool, not, List, [], eqb, get_or, Result, Ok, Option, Some}
use Rattle.paper.specs.declared.Trailer.{Trailer}
use Rattle.paper.specs.declared.Previous.{Previous}
use Rattle.paper.specs.Answers.{Verdict}
use Rattle.paper.specs.Cases.{Fact, size, scope_of}
use Rattle.paper.specs.Facts.{none_previous, previous_of}
use Rattle.paper.specs.Rules.{rule}
use Rattle.paper.specs.Verdicts.{row_rules}
use Rattle.paper.specs.Writing.{rows_before, content_rules, in_turn}
use Rattle.evidence.specs.declared.Head.{Head}
use Rattle.facts.specs.declared.Kept.{Kept}
use Rattle.facts.specs.Turns.{verdict_of}
use Rattle.lists.specs.Listed.{content, fact_case}
use Rattle.paper.specs.declared.Refusal.{Refusal}

module _ (t : Trailer) (loops heads rows : List ℕ) where
  -- how many rows come before fact i
  abbrev pub before : ℕ → ℕ
  before i = rows_before (content t [] [] [] heads rows) i

  abbrev pub fact : ℕ → Fact
  fact i = (fact_case t loops heads rows).fact i

  -- "15 standing for a wrong number of rows"
  abbrev pub miscounted : ℕ → Bool
  miscounted i = not (eqb (get_or heads (4 * i + 3) 0) (size (scope_of (fact_case t loops heads rows) (fact i))))

  -- what comes after fact i's head and order
  abbrev pub body : ℕ → Verdict → Verdict
  body i rest = rule 15 i (miscounted i) (row_rules (fact_case t loops heads rows) i (fact i) rest)

  -- fact i's turn, after the previous one
  abbrev pub turn : ℕ → Option Previous → Verdict → Verdict
  turn i previous rest = content_rules (fact_case t loops heads rows) i previous (miscounted i) rest

  abbrev pub turns : Verdict → Verdict
  turns rest = in_turn (fact_case t loops heads rows) turn t.facts 0 none_previous rest

  -- The head is that of fact i: its rows come after those of the facts before, and its scope is a range of nodes.
  pub record Stands (i : ℕ) (h : Head) : Type 0 where
    pub place : h.place ≡ before i
    pub first : h.first ≡ (scope_of (fact_case t loops heads rows) (fact i)).first
    pub last : h.last ≡ (scope_of (fact_case t loops heads rows) (fact i)).last
    pub block : h.block ≡ (fact i).block
    pub limit : h.limit ≡ (fact i).limit
    pub home : h.home ≡ h.block % t.sets
    pub rises : h.first ≤ h.last
    pub within : h.last < t.nodes

  -- After fact i: what it is to the next one, and how many rows there are up to its end.
  pub record Next (i : ℕ) (kept : Kept) : Type 0 where
    pub previous_is : Some kept.previous ≡ previous_of (fact_case t loops heads rows) (fact i)
    pub end_is : kept.end ≡ before (suc i)

  -- Fact i is judged by the chain: it is refused as the chain refuses, or it is kept.
  pub record Told (i : ℕ) (chain : Verdict → Verdict) (r : Result Kept Refusal) : Type 0 where
    pub verdict : verdict_of r ≡ chain (Ok tt)
    pub next : (kept : Kept) → r ≡ Ok kept → Next i kept
