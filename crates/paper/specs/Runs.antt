-- A walk run over the contents of all sets: each visit fetches its node's block, and each fetch hits or misses. A handler may change the contents in between.
use Rattle.std.specs.Prelude.{ℕ, suc, ◌+◌, ◌%◌, ◌<◌, ◌≡◌, Bool, true, cond, ◌&&◌, List, [], ◌∷◌, ◌++◌, eqb, length}
use Rattle.paper.specs.declared.SetState.{SetState}
use Rattle.paper.specs.Lists.{bit}
use Rattle.paper.specs.Machines.{none, legal}
use Rattle.paper.specs.Traces.{Content, after, miss_at}
use Rattle.paper.specs.Cases.{Case, Fact, inside, scope_of}

-- "A set … is held as eight lines and one byte of bits", and its state is legal.
pub record LegalSet (policy k : ℕ) (s : SetState) : Type 0 where
  pub eight : length s.lines ≡ 8
  pub legal : legal policy k s ≡ true

-- "every legal cache content": of each set, whatever blocks it holds.
abbrev pub LegalContent : Case → Content → Type 0
LegalContent e c = (q : ℕ) → q < e.sets → LegalSet e.policy e.ways (c q)

-- What comes in turn: the visit of a node, or an interruption, where "a handler may run".
pub data Event : Type 0 where
  visit : ℕ → Event
  interruption : Event

-- The walk: the nodes visited.
abbrev pub walk_of : List Event → List ℕ
walk_of [] = []
walk_of (visit v ∷ r) = v ∷ walk_of r
walk_of (interruption ∷ r) = walk_of r

-- How often it is interrupted.
abbrev pub interruptions : List Event → ℕ
interruptions [] = 0
interruptions (visit v ∷ r) = interruptions r
interruptions (interruption ∷ r) = suc (interruptions r)

pub record Fetch : Type 0 where
  pub node : ℕ
  pub block : ℕ
  pub miss : Bool

module _ (e : Case) where
  -- a visit of a node that fetches nothing changes nothing
  unfoldable pub visited : Content → ℕ → Content
  visited c v = cond (eqb (e.block v) none) c (after e.policy e.ways e.sets c (e.block v))

  unfoldable pub fetched : Content → ℕ → List Fetch
  fetched c v =
      cond (eqb (e.block v) none) []
      (record { node = v; block = e.block v; miss = miss_at e.policy e.ways e.sets c (e.block v) } ∷ [])

  -- From the content c; interruption i leaves the content `left i`. "Only our own misses are counted": what a handler fetches is not among the fetches.
  unfoldable pub run : Content → (ℕ → Content) → List Event → List Fetch
  run c left [] = []
  run c left (visit v ∷ r) = fetched c v ++ run (visited c v) left r
  run c left (interruption ∷ r) = run (left 0) (λ i. left (suc i)) r

  -- "the misses of each fact's accesses, of each set and in all"
  unfoldable pub of_fact : Fact → Fetch → Bool
  of_fact t a = inside (scope_of e t) a.node && eqb a.block t.block

  unfoldable pub of_set : ℕ → Fetch → Bool
  of_set q a = eqb (a.block % e.sets) q

-- The fetches that pass the test and miss.
unfoldable pub misses : (Fetch → Bool) → List Fetch → ℕ
misses test [] = 0
misses test (a ∷ fetches) = bit (test a && a.miss) + misses test fetches
