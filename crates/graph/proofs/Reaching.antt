-- One pass over the edges marks exactly the nodes that edges lead to from node 0: what is marked is reached, and along a walk each node, and the header of each loop around it, is marked in time for the edges that leave it.
use Prim.Native.Nat.{ℕ, zero, suc, ◌≤◌, ◌<◌}
use native.Mathlib.Omega.{arith}
use native.Mathlib.Decide.{ℕ_discrete, dec_le, dec_lt}
use mathlib.Core.Path.{◌≡◌, refl, sym}
use mathlib.Core.Logic.{◌⊎◌, inl, inr, ⊎_elim, dite}
use mathlib.Core.Bool.{Bool, true}
use Rattle.paper.specs.Cases.{Case}
use Rattle.paper.specs.Graphs.{bad_entry, bad_return, reached}
use Rattle.paper.specs.Walks.{Edge}
use Rattle.paper.specs.Known.{Shaped}
use Rattle.paper.proofs.Climbs.{climbs}
use Rattle.paper.proofs.Least.{None}
use Rattle.paper.proofs.Says.{Says, holds, fails, says_bool, says_eq, says_and, says_or, says_is, says_true, says_same}
use Rattle.paper.proofs.Meaning.{In}
use Rattle.paper.proofs.GraphLaws.{inside_says, forward_at, back_at}
use Rattle.paper.proofs.Reach.{Way, last, next, join}
use Rattle.paper.proofs.Reached.{Any, From0, from_0_says}
use Rattle.graph.specs.Reaching.{reached_to}

module _ (e : Case) where
  -- v is marked after i edges
  abbrev pub Marked : ℕ → ℕ → Type 0
  Marked v i = reached_to e v i ≡ true

  -- the turn of edge i
  pub turn_says : (v i : ℕ) → Says (Marked v i ⊎ (Marked (e.from i) i × (v ≡ e.to i))) (reached_to e v (suc i))
  unfolding reached_to
  turn_says v i = says_or (says_bool _) (says_and (says_bool _) (says_eq _ _))

  pub first_says : (v : ℕ) → Says (v ≡ 0) (reached_to e v 0)
  unfolding reached_to
  first_says v = says_eq v 0

  -- what is marked is reached
  on_from : {u v : ℕ} → Edge e u v → From0 e u → From0 e v
  on_from d (inl p) = inr (last (rw p at d))
  on_from d (inr w) = inr (join w tt (last d))

  marked_from : (i : ℕ) → i ≤ e.edges → (v : ℕ) → Marked v i → From0 e v
  marked_from zero h v m = inl (says_true (first_says v) m)
  marked_from (suc i) h v m =
      ⊎_elim (marked_from i (omega arith) v) (λ n. on_from (i, h, refl, sym n.1) (marked_from i (omega arith) (e.from i) n.0))
      (says_true (turn_says v i) m)

  -- a mark stays
  marked_on : (v i n : ℕ) → i ≤ n → Marked v i → Marked v n
  marked_on v i zero h m = let z : i ≡ 0 = omega arith in rw z at m
  marked_on v i (suc n) h m =
      elim (ℕ_discrete i (suc n)) [ yes z ↦ rw z at m | no z ↦ says_is (turn_says v n) (inl (marked_on v i n (omega arith) m)) ]

  -- v is marked as soon as all edges that start before it have had their turn
  abbrev InTime : ℕ → Type 0
  InTime v = (i : ℕ) → ((k : ℕ) → k < e.edges → e.from k < v → k < i) → Marked v i

  node_0 : (v : ℕ) → v ≡ 0 → InTime v
  node_0 v p i before = marked_on v 0 i (omega arith) (says_is (first_says v) p)

  module _ (shape : Shaped e) where
    -- the edges that start before u stand before every edge that starts at u
    along_forward : (u v : ℕ) → Edge e u v → u < v → InTime u → InTime v
    along_forward u v (k, l, from, to) lt m i before =
        marked_on v (suc k) i (before k l (omega arith)) (says_is (turn_says v k) (inr (start, sym to)))
      where
        earlier : (j : ℕ) → j < e.edges → e.from j < u → j < k
        earlier j h q = dite (dec_lt j k) (λ z. z) (λ z. absurd (omega (arith, climbs e.from e.edges shape.climbs k j (omega arith) h)))

        start : Marked (e.from k) k
        start = rw from (m k earlier)

    -- Beyond that, no edge breaks one of the rules 8 and 9.
    module _ (entries : None (bad_entry e) e.edges) (returns : None (bad_return e) e.edges) where
      -- the node is marked in time, and so is the header of each loop around it: every walk to it has passed them
      abbrev Passed : ℕ → Type 0
      Passed v = InTime v × ((j : ℕ) → j < e.loops → In (e.loop j) v → InTime (e.loop j).first)

      -- a loop that is entered is entered at its header
      forward_on : (u v : ℕ) → Edge e u v → u < v → Passed u → Passed v
      forward_on u v d l p = (now, λ j m i. header j m i (inside_says (e.loop j) u))
        where
          now : InTime v
          now = along_forward u v d l p.0

          header : (j : ℕ) → j < e.loops → In (e.loop j) v → {t : Bool} → Says (In (e.loop j) u) t → InTime (e.loop j).first
          header j m i (holds o) = p.1 j m o
          header j m i (fails o) = rw (forward_at e entries u v d l j m i o) at now

      -- a loop around the header of loop x is that loop, or one around all of it
      back_on : (u v : ℕ) → Edge e u v → v ≤ u → Passed u → Passed v
      back_on u v d l p = let (x, n, q, o) = back_at e returns u v d l in (rw (sym q) at (p.1 x n o), λ j m i. header x n q o j m i)
        where
          header : (x : ℕ) → x < e.loops → v ≡ (e.loop x).first → In (e.loop x) u → (j : ℕ) → j < e.loops → In (e.loop j) v → InTime (e.loop j).first
          header x n q o j m i =
              elim (ℕ_discrete j x) [
                | yes z ↦ rw z (p.1 x n o)
                | no z ↦
                    dite (dec_lt j x) (λ h. p.1 j m (omega arith, omega (arith, shape.nested j x h n (omega arith))))
                    (λ h. absurd (omega (arith, shape.rises x j (omega arith) m)))
              ]

      step : (u v : ℕ) → Edge e u v → Passed u → Passed v
      step u v d p = dite (dec_le v u) (λ l. back_on u v d l p) (λ l. forward_on u v d (omega arith) p)

      along : {u v : ℕ} → Way (Edge e) Any u v → Passed u → Passed v
      along (last d) p = step _ _ d p
      along (next d a w) p = along w (step _ _ d p)

      at_start : Passed 0
      at_start = (node_0 0 refl, λ j m i. node_0 (e.loop j).first (omega arith))

      all_marked : {v : ℕ} → From0 e v → InTime v
      all_marked (inl p) = node_0 _ p
      all_marked (inr w) = (along w at_start).0

      -- after all edges the marks are the nodes that edges lead to from node 0
      pub reached_marks : (v : ℕ) → reached_to e v e.edges ≡ reached e v
      reached_marks v =
          says_same (marked_from e.edges (omega arith) v) (λ w. all_marked w e.edges (λ k l q. l)) (says_bool _) (from_0_says e shape v)
