-- What is asked of a row, and of the two rows at the ends of an edge, in the parts in which it is looked at.
use Rattle.std.specs.Prelude.{ℕ, suc, ◌+◌, ◌<◌, ◌≤◌, ◌≡◌, Bool, not, ◌&&◌, List, length, eqb, leb}
use Rattle.paper.specs.declared.Trailer.{Trailer}
use Rattle.paper.specs.Machines.{none}
use Rattle.paper.specs.Cases.{Row, Fact, Case, same_set}
use Rattle.paper.specs.Records.{row_size}
use Rattle.paper.specs.Files.{row_at, case_of}
use Rattle.paper.specs.Facts.{holds, breaks}
use Rattle.evidence.specs.declared.Head.{Head}
use Rattle.evidence.specs.Stands.{fact_of}

-- A set of n blocks stands at `at`.
pub record SetAt (f : List ℕ) (at n : ℕ) : Type 0 where
  pub room : at + row_size ≤ length f
  pub few : n < 8
  pub number : n ≡ (row_at f at).number

-- The same, and it is "strictly rising".
pub record RisingAt (f : List ℕ) (at n : ℕ) : Type 0 where
  pub set : SetAt f at n
  pub rises : (i : ℕ) → suc i < n → (row_at f at).slot i < (row_at f at).slot (suc i)

-- "free slots are 65,535": slot i is one of those from n on, and is not free
unfoldable pub unfree : ℕ → Row → ℕ → Bool
unfree n r i = leb n i && not (eqb (r.slot i) none)

-- row s lacks block i of row r
unfoldable pub missing : Row → Row → ℕ → Bool
missing r s i = not (holds s (r.slot i))

-- row s lacks the block x "where u fetches one of b's set"
unfoldable pub forgets : Case → Fact → ℕ → Row → Bool
forgets e t x s = not (eqb x none) && (same_set e x t.block && not (holds s x))

-- the rule for an edge from the scope's node i, which fetches x, to its node j
abbrev pub breaks_at : List ℕ → Trailer → Head → ℕ → ℕ → ℕ → Bool
breaks_at f trailer h x i j = breaks (case_of f trailer) (fact_of f h) x ((fact_of f h).row i) ((fact_of f h).row j)
