-- Demand 3, both halves.
use Rattle.std.specs.Prelude.{ℕ, ◌+◌, ◌*◌, ◌%◌, ◌≤◌, ◌<◌, ◌≡◌, ◌≢◌, ◌↔◌, true, false, length, get_or, Ok}
use mathlib.Core.List.{List, [], ◌∷◌, Memᴰ}
use Rattle.paper.specs.Machines.{none}
use Rattle.paper.specs.Traces.{Content}
use Rattle.paper.specs.Cases.{Fact, Case, inside, size, scope_of}
use Rattle.paper.specs.Walks.{Edge, Walk, KeepsLimits}
use Rattle.paper.specs.Runs.{LegalContent, Event, walk_of, interruptions, Fetch, run, misses, of_fact, of_set}
use Rattle.paper.specs.Facts.{bad_head, unfetched}
use Rattle.paper.specs.Bounds.{list_length, sets_from, facts_from}
use Rattle.paper.specs.Records.{row_size}
use Rattle.paper.specs.Files.{row_at, read_case}
use Rattle.paper.specs.Rules.{Passes}
use Rattle.paper.specs.Verdicts.{evidence_rules, whole_file_rules, verdict}
use Rattle.paper.specs.OneFact.{file_with}

-- "on every walk from node 0 that keeps the loop limits and for every legal cache content at the start, the misses of each fact's accesses, of each set
-- and in all never exceed the printed bounds": the numbers are those of the lent list, and the fetches those of one run.
pub record BoundsHold (e : Case) (numbers : List ℕ) (fetches : List Fetch) : Type 0 where
  pub total : misses (λ a. true) fetches ≤ get_or numbers 0 0
  pub set : (q : ℕ) → q < e.sets → misses (of_set e q) fetches ≤ get_or numbers (sets_from + q) 0
  pub fact : (i : ℕ) → i < e.facts → misses (of_fact e (e.fact i)) fetches ≤ get_or numbers (facts_from + i) 0

-- "Demand 3 is to hold for every walk, every placing of at most p interruptions, and any legal content after each": c is the content at the start, `left i` what interruption i leaves.
-- An interruption may come between any two visits, before the first and after the last.
abbrev pub Holds : Case → ℕ → List ℕ → Type 0
Holds e p numbers =
    (r : List Event)
    → Walk e (walk_of r)
    → KeepsLimits e (walk_of r)
    → interruptions r ≤ p
    → (c : Content)
    → LegalContent e c
    → (left : ℕ → Content)
    → ((i : ℕ) → i < interruptions r → LegalContent e (left i))
    → BoundsHold e numbers (run e c left r)

-- A list of bytes, as every file is.
abbrev pub Bytes : List ℕ → Type 0
Bytes f = (c : ℕ) → Memᴰ c f → c < 256

-- "strictly rising": so no block twice.
abbrev pub Rising : List ℕ → Type 0
Rising [] = Unit {0}
Rising (x ∷ r) = ((y : ℕ) → Memᴰ y r → x < y) × Rising r

module _ (e : Case) (t : Fact) where
  -- an edge inside the scope
  abbrev pub EdgeInside : ℕ → ℕ → Type 0
  EdgeInside u v = Edge e u v × (inside (scope_of e t) u ≡ true) × (inside (scope_of e t) v ≡ true)

  -- a walk inside the scope, from u through the nodes m to v
  abbrev pub WalkInside : ℕ → List ℕ → ℕ → Type 0
  WalkInside u [] v = EdgeInside u v
  WalkInside u (x ∷ m) v = EdgeInside u x × WalkInside x m v

  -- "other blocks of the set"
  abbrev pub Other : ℕ → Type 0
  Other c = (c ≢ t.block) × (c ≢ none) × (c % e.sets ≡ t.block % e.sets)

  -- "can have gathered since the last access": a walk from a node that fetches b to v, with no b in between, passes a node that fetches c.
  -- It "starts … at any node of the scope that fetches b, reachable from node 0 or not, stays inside the scope, and heeds no loop limit".
  pub record Gathered (v c : ℕ) : Type 0 where
    pub start : ℕ
    pub between : List ℕ
    pub node : ℕ
    pub starts : e.block start ≡ t.block
    pub walk : WalkInside start between v
    pub free : (x : ℕ) → Memᴰ x between → e.block x ≢ t.block
    pub passed : Memᴰ node between
    pub fetches : e.block node ≡ c
    pub other : Other c

  -- "at each access to the block in that loop fewer than its age limit of other blocks of the set can have gathered"
  abbrev pub FewGathered : Type 0
  FewGathered =
      (v : ℕ)
      → inside (scope_of e t) v ≡ true
      → e.block v ≡ t.block
      → (r : List ℕ)
      → Rising r
      → ((c : ℕ) → Memᴰ c r → Gathered v c)
      → length r < t.limit

  -- the fact with these bytes as its rows, wherever they came from
  abbrev pub with_rows : List ℕ → Fact
  with_rows bytes = record { scope = t.scope; block = t.block; limit = t.limit; row = λ j. row_at bytes (row_size * j) }

  -- "The tool accepts evidence for it if the fact, with those rows, also passes 15 to 18"
  pub record Evidence : Type 0 where
    pub rows : List ℕ
    pub bytes : Bytes rows
    pub whole : length rows ≡ row_size * size (scope_of e t)
    pub passes : Passes (evidence_rules e 0 (with_rows rows))

-- Evidence that the tool accepts: rows with which the file that has f's graph, and this fact alone, is accepted. `room` is the length of the lent list.
pub record AcceptedEvidence (f : List ℕ) (t : Fact) (room : ℕ) : Type 0 where
  pub rows : List ℕ
  pub bytes : Bytes (file_with f t rows)
  pub accepted : verdict (file_with f t rows) room ≡ Ok tt

-- "for an otherwise sound fact, evidence that the tool accepts exists exactly when …": "one that passes 12 to 14 in a file that passes 1 to 10", and since request 5 also 26
-- (13 compares it with the fact before it, and plays no part).
abbrev pub EvidenceExact : List ℕ → Type 0
EvidenceExact f =
    Bytes f
    → Passes (whole_file_rules f)
    → (t : Fact)
    → bad_head (read_case f) t ≡ false
    → unfetched (read_case f) t ≡ false
    → (room : ℕ)
    → list_length ≤ room
    → AcceptedEvidence f t room ↔ FewGathered (read_case f) t
