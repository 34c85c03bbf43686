-- A node is not dead exactly where some walk ends at it: the walk by the list of its visits, by its edges, and by the test that tries fewer and fewer nodes between.
use Prim.Native.Nat.{ℕ, zero, suc, ◌<◌}
use native.Mathlib.Omega.{arith}
use mathlib.Core.Path.{◌≡◌, refl, sym, ap}
use mathlib.Core.Logic.{◌⊎◌, inl, inr, ⊎_elim}
use mathlib.Core.Option.{some, some-injective}
use mathlib.Core.List.{List, [], ◌∷◌, get_last?}
use Rattle.paper.specs.Cases.{Case}
use Rattle.paper.specs.Graphs.{joined, leads, reached, dead}
use Rattle.paper.specs.Walks.{Edge, Follows, Reaches}
use Rattle.paper.specs.Known.{Shaped}
use Rattle.paper.proofs.Says.{Says, says_eq, says_not, says_and, says_or, says_some, says_as}
use Rattle.paper.proofs.Reach.{Way, last, next, Below, cut, paste, direct, anywhere, below_all}

-- a walk may pass any node
abbrev pub Any : ℕ → Type 0
Any x = Unit {0}

module _ (e : Case) where
  joined_says : (u v : ℕ) → Says (Edge e u v) (joined e u v)
  unfolding joined
  joined_says u v =
      says_as (λ s. (s.0, s.1, s.2.0, s.2.1)) (λ s. (s.0, s.1, (s.2, s.3)))
      (says_some (λ i. says_and (says_eq (e.from i) u) (says_eq (e.to i) v)) e.edges)

  leads_says : (k u v : ℕ) → Says (Below (Edge e) Any k u v) (leads e k u v)
  unfolding leads
  leads_says zero u v = says_as last (direct (Edge e) Any) (joined_says u v)
  leads_says (suc k) u v =
      says_as (paste (Edge e) Any) (cut (Edge e) Any)
      (says_or (leads_says k u v) (says_as (λ h. (tt, h)) (λ h. h.1) (says_and (leads_says k u k) (leads_says k k v))))

  -- v is node 0, or edges lead there from it
  abbrev pub From0 : ℕ → Type 0
  From0 v = (v ≡ 0) ⊎ Way (Edge e) Any 0 v

  -- the edges of a list of visits, and the visits of a way along edges
  comes : (u v : ℕ) (w : List ℕ) → Follows e (some u) w → get_last? (u ∷ w) ≡ some v → (v ≡ u) ⊎ Way (Edge e) Any u v
  comes u v [] f l = inl (sym (some-injective u v l))
  comes u v (x ∷ w) f l = inr (⊎_elim (λ p. last (rw p f.0)) (λ y. next f.0 tt y) (comes x v w f.1 l))

  goes : {u v : ℕ} → Way (Edge e) Any u v → (w : List ℕ) × Follows e (some u) w × (get_last? (u ∷ w) ≡ some v)
  goes {v = v} (last s) = (v ∷ [], (s, tt), refl)
  goes (next {x = x} s p w) = let r = goes w in (x ∷ r.0, (s, r.1), r.2)

  walk_from : (v : ℕ) → From0 v → Reaches e v
  walk_from v (inl p) = (0 ∷ [], (refl, tt), ap some (sym p))
  walk_from v (inr w) = let r = goes w in (0 ∷ r.0, (refl, r.1), r.2)

  from_walk : (v : ℕ) → Reaches e v → From0 v
  from_walk v ([], f, l) = absurd (let z : ◌≡◌ {A = ℕ} 0 1 = cc in omega arith)
  from_walk v (x ∷ w, f, l) = rw f.0 at (comes x v w f.1 l)

  -- Edges end at nodes, by rule 6.
  module _ (shape : Shaped e) where
    to_node : (u v : ℕ) → Edge e u v → v < e.nodes
    to_node u v d = omega (arith, d.3, shape.ends d.0 d.1)

    pub from_0_says : (v : ℕ) → Says (From0 v) (reached e v)
    unfolding reached
    from_0_says v =
        says_or (says_eq v 0) (says_as (anywhere (Edge e) Any e.nodes) (below_all (Edge e) Any e.nodes to_node) (leads_says e.nodes 0 v))

    -- "edges lead to from node 0"
    pub reached_says : (v : ℕ) → Says (Reaches e v) (reached e v)
    reached_says v = says_as (walk_from v) (from_walk v) (from_0_says v)

    pub dead_says : (v : ℕ) → Says (¬ Reaches e v) (dead e v)
    unfolding dead
    dead_says v = says_not (reached_says v)
