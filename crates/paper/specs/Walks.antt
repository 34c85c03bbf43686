-- "A walk starts at node 0, follows edges, and may stop anywhere; the empty walk counts."
use Rattle.std.specs.Prelude.{ℕ, ◌+◌, ◌≤◌, ◌<◌, ◌≡◌, ◌≢◌, Bool, true, not, eqb}
use Rattle.std.proofs.Math.Option.{Option, none, some}
use mathlib.Core.List.{List, [], ◌∷◌, ◌++◌, Memᴰ, head?, get_last?}
use Rattle.paper.specs.declared.Loop.{Loop}
use Rattle.paper.specs.Lists.{bit}
use Rattle.paper.specs.Cases.{Case, unlimited, inside}

-- There is an edge u to v.
abbrev pub Edge : Case → ℕ → ℕ → Type 0
Edge e u v = (i : ℕ) × (i < e.edges) × (e.from i ≡ u) × (e.to i ≡ v)

-- The walk may visit v next, after the visit p; as its first node where there was none.
abbrev pub Step : Case → Option ℕ → ℕ → Type 0
Step e none v = v ≡ 0
Step e (some u) v = Edge e u v

-- The nodes w, in the order of their visits, may be visited after p.
abbrev pub Follows : Case → Option ℕ → List ℕ → Type 0
Follows e p [] = Unit {0}
Follows e p (v ∷ w) = Step e p v × Follows e (some v) w

abbrev pub Walk : Case → List ℕ → Type 0
Walk e w = Follows e none w

-- There is a walk that ends at v.
abbrev pub Reaches : Case → ℕ → Type 0
Reaches e v = (w : List ℕ) × Walk e w × (get_last? w ≡ some v)

-- How often v is visited.
abbrev pub visits : ℕ → List ℕ → ℕ
visits v [] = 0
visits v (u ∷ w) = bit (eqb u v) + visits v w

-- The visit, if there is one, is to no node of the loop.
abbrev pub outside : Loop → Option ℕ → Bool
outside l none = true
outside l (some u) = not (inside l u)

-- "A stay in a loop is a longest run of consecutive visits to its nodes."
pub record Stay (l : Loop) (w s : List ℕ) : Type 0 where
  pub before : List ℕ
  pub after : List ℕ
  pub parts : w ≡ before ++ (s ++ after)
  pub within : (v : ℕ) → Memᴰ v s → inside l v ≡ true
  pub entered : outside l (get_last? before) ≡ true
  pub left : outside l (head? after) ≡ true

-- "A walk keeps the limits if in each stay the header is visited at most B times, the arriving visit included", and
-- "over a whole walk its header is visited at most W times; 4,294,967,295 says no such limit".
pub record KeepsLimits (e : Case) (w : List ℕ) : Type 0 where
  pub in_stay : (j : ℕ) → j < e.loops → (s : List ℕ) → Stay (e.loop j) w s → visits (e.loop j).first s ≤ (e.loop j).bound
  pub in_walk : (j : ℕ) → j < e.loops → (e.loop j).visits ≢ unlimited → visits (e.loop j).first w ≤ (e.loop j).visits
