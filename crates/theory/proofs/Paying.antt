-- A walk over the steps of a loop, or of the graph: what its visits pay is never more than the way to where it is.
use Prim.Native.Nat.{ℕ, suc, ◌+◌, ◌*◌, ◌≤◌, ◌<◌}
use native.Mathlib.Omega.{arith}
use native.Mathlib.Decide.{dec_le, ℕ_discrete}
use mathlib.Core.Path.{◌≡◌, refl, sym, ◌∙◌, ap}
use mathlib.Core.Logic.{dite, ⊎_elim}
use mathlib.Core.Bool.{Bool, cond, not}
use mathlib.Core.Option.{Option, some}
use mathlib.Core.List.{List, [], ◌∷◌}
use lib.Dec.{ltb}
use Rattle.paper.specs.Lists.{bit}
use Rattle.paper.specs.Cases.{Case, inside}
use Rattle.paper.specs.Walks.{Edge, outside}
use Rattle.paper.specs.Times.{step_loop}
use Rattle.paper.proofs.Says.{Says, holds, fails}
use Rattle.paper.proofs.Meaning.{In, SoundGraph}
use Rattle.paper.proofs.GraphLaws.{inside_says}
use Rattle.paper.proofs.TimeLaws.{Free, Held, step_of, free_test, free_first, free_time, held_outer, held_test, held_first, held_time, way, way_inside, way_edge}
use Rattle.theory.proofs.Steps.{enters}

-- The sum, over the visits of w, which comes after the visit p, of a number for the node visited before and the node visited.
abbrev pub along : (Option ℕ → ℕ → ℕ) → Option ℕ → List ℕ → ℕ
along f p [] = 0
along f p (v ∷ w) = f p v + along f (some v) w

-- The loops from number k on are steps. A visit that begins a stay in such a step pays the loop's time, any other visit in it nothing;
-- a visit of a node in none of them pays its cost.
module _ (e : Case) (cost t : ℕ → ℕ) (k : ℕ) where
  unfoldable pub pays : Option ℕ → ℕ → ℕ
  pays p v = cond (ltb (step_loop e k v) e.loops) (t (step_loop e k v) * bit (outside (e.loop (step_loop e k v)) p)) (cost v)

  pub free_pays : (p : Option ℕ) (v : ℕ) → Free e k v → pays p v ≡ cost v
  unfolding pays
  free_pays p v h = rw (free_test e k v h) refl

  pub held_pays : (p : Option ℕ) (v j : ℕ) → Held e k v j → pays p v ≡ t j * bit (outside (e.loop j) p)
  unfolding pays
  held_pays p v j h = rw (held_test e k v j h, held_outer e k v j h) refl

-- what the visits of loop n's nodes pay, where the loops after it are steps
abbrev pub pays_in : Case → (ℕ → ℕ) → (ℕ → ℕ) → ℕ → Option ℕ → ℕ → ℕ
pays_in e cost t n p v = cond (inside (e.loop n) v) (pays e cost t (suc n) p v) 0

module _ (e : Case) (s : SoundGraph e) where
  -- the step that has v has the nodes of its loop
  held_too : (k u v j : ℕ) → Held e k v j → In (e.loop j) u → Held e k u j
  held_too k u v j h o =
      record {
        from = h.from;
        below = h.below;
        has = o;
        first = λ i a b q. h.first i a b (omega (arith, h.has, s.rises i j b h.below, s.nested i j b h.below (omega arith)));
      }

  module _ (cost t : ℕ → ℕ) (k a m : ℕ) where
    -- the way to a node, and one
    abbrev to : ℕ → ℕ
    to v = way e cost t k a m v

    -- the way to a step is the way to its first node
    held_way : (v j : ℕ) → v < m → Held e k v j → to v ≡ to (e.loop j).first
    held_way v j l h =
        elim (ℕ_discrete v (e.loop j).first) [
          | yes p ↦ ap to p
          | no q ↦
              way_inside e cost t k a m v l (omega (arith, held_first e k v j h, h.has))
              ∙ ap to (held_first e k v j h)
        ]

    -- An edge, if it goes back to a header then to that of a step: what it pays, the way grows by.
    pub edge_pays :
        (u v : ℕ) → Edge e u v → u < m → v < m → (v ≤ u → (j : ℕ) × (k ≤ j) × (j < e.loops) × (v ≡ (e.loop j).first)) → 1 ≤ to u
        → pays e cost t k (some u) v + to u ≤ to v
    edge_pays u v d hu hv back p = ⊎_elim free (λ r. held r.0 r.1) (step_of e k v)
      where
        free : Free e k v → pays e cost t k (some u) v + to u ≤ to v
        free f =
            dite (dec_le v u)
            (λ q. let (j, from, below, z) = back q in absurd (f j from below (omega (arith, s.fits j below))))
            (λ q.
            omega (
              arith,
              free_pays e cost t k (some u) v f,
              free_time e k v f cost t,
              way_edge e cost t k a m u v d (omega arith) hv (free_first e k v f) p,
            ))

        held : (j : ℕ) → Held e k v j → pays e cost t k (some u) v + to u ≤ to v
        held j h = rw (held_pays e cost t k (some u) v j h) (go (inside_says (e.loop j) u))
          where
            go : {b : Bool} → Says (In (e.loop j) u) b → t j * bit (not b) + to u ≤ to v
            go (holds o) = omega (arith, held_way v j hv h, held_way u j hu (held_too k u v j h o))
            go (fails n) =
                let (z, l) = enters e s u v d j h.below h.has n in
                omega (
                  arith,
                  held_time e k v j h cost t,
                  way_edge e cost t k a m u v d l hv (held_first e k v j h ∙ sym z) p,
                )
