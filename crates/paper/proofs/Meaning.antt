-- What the tests of the rules say, as propositions: of the graph, of a row, of an edge, of a fact, of a case. The theory speaks of these alone.
use Rattle.std.specs.Prelude.{Option}
use Prim.Native.Nat.{ℕ, zero, suc, ◌≤◌, ◌<◌}
use mathlib.Core.Path.{◌≡◌}
use mathlib.Core.Logic.{◌≢◌}
use mathlib.Core.Bool.{true, false}
use Rattle.paper.specs.declared.Loop.{Loop}
use Rattle.paper.specs.declared.Previous.{Previous}
use Rattle.paper.specs.Machines.{none, in_range}
use Rattle.paper.specs.Cases.{Row, Fact, Case, scope_of, row_of}
use Rattle.paper.specs.Graphs.{count}
use Rattle.paper.specs.Walks.{Edge, Reaches}
use Rattle.paper.specs.Facts.{held, none_previous, previous_of, bad_order}
use Rattle.paper.specs.Demands.{Other}

-- the node is in the loop
abbrev pub In : Loop → ℕ → Type 0
In l v = (l.first ≤ v) × (v ≤ l.last)

-- Rules 6 to 10 and 26.
pub record SoundGraph (e : Case) : Type 0 where
  pub ends : (u v : ℕ) → Edge e u v → (u < e.nodes) × (v < e.nodes)
  pub fits : (j : ℕ) → j < e.loops → ((e.loop j).first ≤ (e.loop j).last) × ((e.loop j).last < e.nodes) × (1 ≤ (e.loop j).bound)
  -- headers rise, and two loops are nested or apart
  pub rises : (i j : ℕ) → i < j → j < e.loops → (e.loop i).first < (e.loop j).first
  pub nested : (i j : ℕ) → i < j → j < e.loops → (e.loop j).first ≤ (e.loop i).last → (e.loop j).last ≤ (e.loop i).last
  -- a forward edge enters a loop at its header only
  pub forward : (u v : ℕ) → Edge e u v → u < v → (j : ℕ) → j < e.loops → In (e.loop j) v → ¬ In (e.loop j) u → v ≡ (e.loop j).first
  -- any other edge goes to the header of a loop that it is in
  pub back : (u v : ℕ) → Edge e u v → v ≤ u → (j : ℕ) × (j < e.loops) × (v ≡ (e.loop j).first) × In (e.loop j) u
  -- some walk ends at each node
  pub reached : (v : ℕ) → v < e.nodes → Reaches e v
  pub counts : (v : ℕ) → v < e.nodes → count e v ≤ 4294967295

-- The row holds the block x.
abbrev pub Holds : Row → ℕ → Type 0
Holds r x = (k : ℕ) × (k < held r) × (r.slot k ≡ x)

module _ (e : Case) (t : Fact) where
  -- Rule 16.
  pub record SoundRow (r : Row) : Type 0 where
    pub number : r.number ≤ 9
    pub few : r.number < 8 → r.number < t.limit
    pub others : (k : ℕ) → k < held r → Other e t (r.slot k)
    pub rising : (k : ℕ) → suc k < held r → r.slot k < r.slot (suc k)
    pub free : (k : ℕ) → held r ≤ k → k < 7 → r.slot k ≡ none

  -- Row r is not "many", and row s is a set that holds its blocks, and also the block x where it is another of the fact's set.
  pub record Carried (x : ℕ) (r s : Row) : Type 0 where
    pub set_before : r.number ≢ 8
    pub set_after : s.number < 8
    pub keeps : (k : ℕ) → k < held r → Holds s (r.slot k)
    pub adds : Other e t x → Holds s x

  -- Rule 17, for an edge u to v: u fetches x and has row r, v has row s.
  pub record EdgeRule (x : ℕ) (r s : Row) : Type 0 where
    pub after_block : x ≡ t.block → s.number ≢ 9
    pub other : x ≢ t.block → r.number ≢ 9 → s.number ≢ 8 → Carried x r s

  -- Rules 16 to 18.
  pub record SoundEvidence : Type 0 where
    pub rows : (v : ℕ) → In (scope_of e t) v → SoundRow (row_of e t v)
    pub edges : (u v : ℕ) → Edge e u v → In (scope_of e t) u → In (scope_of e t) v → EdgeRule (e.block u) (row_of e t u) (row_of e t v)
    pub many : (v : ℕ) → In (scope_of e t) v → e.block v ≡ t.block → (row_of e t v).number ≢ 8

  -- Rule 12.
  pub record SoundHead : Type 0 where
    pub scope : t.scope ≢ none → t.scope < e.loops
    pub block : t.block ≢ none
    pub low : 1 ≤ t.limit
    pub high : t.limit ≤ e.ways

  -- Rules 12, 14 and 16 to 18.
  pub record SoundFact : Type 0 where
    pub head : SoundHead
    pub fetched : (v : ℕ) × In (scope_of e t) v × (e.block v ≡ t.block)
    pub evidence : SoundEvidence

-- Rules 3 and 4, 6 to 10 and 26, and each fact's.
pub record Sound (e : Case) : Type 0 where
  pub cache : in_range e.policy e.ways e.sets ≡ true
  pub nodes : 1 ≤ e.nodes
  pub graph : SoundGraph e
  pub facts : (i : ℕ) → i < e.facts → SoundFact e (e.fact i)

-- what the fact before fact i is to it
abbrev pub before_of : Case → ℕ → Option Previous
before_of e zero = none_previous
before_of e (suc i) = previous_of e (e.fact i)

-- Rule 13, for each fact.
abbrev pub Ordered : Case → Type 0
Ordered e = (i : ℕ) → i < e.facts → bad_order e (before_of e i) (e.fact i) ≡ false
