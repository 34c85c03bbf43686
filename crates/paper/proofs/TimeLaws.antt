-- The laws of steps, of ways over them, and of a loop's time.
use Prim.Native.Nat.{ℕ, suc, ◌+◌, ◌-◌, ◌*◌, ◌≤◌, ◌<◌}
use native.Mathlib.Omega.{arith}
use mathlib.Core.Path.{◌≡◌, refl, sym, ◌∙◌, ap}
use mathlib.Core.Logic.{◌⊎◌, inl, inr, ⊎_elim}
use mathlib.Core.Bool.{true, false, cond, ◌&&◌}
use borrow.Author.Tests.{lt-ltb, le-ltb, eq-eqb, ne_eqb}
use lib.Dec.{eqb, ltb, leb}
use lib.ListN.{get_or}
use Rattle.paper.specs.Lists.{in_turn}
use Rattle.paper.specs.Cases.{Case, inside}
use Rattle.paper.specs.Walks.{Edge}
use Rattle.paper.specs.Times.{step_loop, step_first, step_time, way_before, way_to, ways, longest_way, entry_time, loop_times, time_of}
use Rattle.paper.proofs.Highest.{highest_at}
use Rattle.paper.proofs.TurnLaws.{turn_at, turn_same, turn_agree}
use Rattle.paper.proofs.Least.{None, Found, look, least_none, least_is}
use Rattle.paper.proofs.Says.{Says, says_le, says_and, says_is, says_true, says_false}
use Rattle.paper.proofs.Meaning.{In}
use Rattle.paper.proofs.GraphLaws.{inside_says}

module _ (e : Case) (k : ℕ) where
  -- the node is in no loop from number k on
  abbrev pub Free : ℕ → Type 0
  Free v = (j : ℕ) → k ≤ j → j < e.loops → ¬ In (e.loop j) v

  -- loop j is the first of them that has the node
  pub record Held (v j : ℕ) : Type 0 where
    pub from : k ≤ j
    pub below : j < e.loops
    pub has : In (e.loop j) v
    pub first : (i : ℕ) → k ≤ i → i < j → ¬ In (e.loop i) v

  test_says : (v j : ℕ) → Says ((k ≤ j) × In (e.loop j) v) (leb k j && inside (e.loop j) v)
  test_says v j = says_and (says_le k j) (inside_says (e.loop j) v)

  pub step_of : (v : ℕ) → Free v ⊎ ((j : ℕ) × Held v j)
  step_of v =
      ⊎_elim
      (λ (h : None (λ j. leb k j && inside (e.loop j) v) e.loops). inl (λ j a b i. (says_false (test_says v j)).0 (h j b) (a, i)))
      (λ (w : Found (λ j. leb k j && inside (e.loop j) v) e.loops). inr (w.at, found w))
      (look (λ j. leb k j && inside (e.loop j) v) e.loops)
    where
      found : (w : Found (λ j. leb k j && inside (e.loop j) v) e.loops) → Held v w.at
      found w =
          let r = says_true (test_says v w.at) w.holds in
          record { from = r.0; below = w.below; has = r.1; first = λ i a b q. (says_false (test_says v i)).0 (w.none i b) (a, q) }

  module _ (v : ℕ) (h : Free v) where
    pub free_outer : step_loop e k v ≡ e.loops
    unfolding step_loop
    free_outer = least_none (λ j. leb k j && inside (e.loop j) v) e.loops (λ j l. (says_false (test_says v j)).1 (λ q. h j q.0 l q.1))

    pub free_test : ltb (step_loop e k v) e.loops ≡ false
    free_test = le-ltb (step_loop e k v) e.loops (omega (arith, free_outer))

    pub free_first : step_first e k v ≡ v
    unfolding step_first
    free_first = rw free_test refl

    pub free_time : (cost t : ℕ → ℕ) → step_time e cost t k v ≡ cost v
    unfolding step_time
    free_time cost t = rw free_test refl

  module _ (v j : ℕ) (h : Held v j) where
    pub held_outer : step_loop e k v ≡ j
    unfolding step_loop
    held_outer =
        least_is (λ i. leb k i && inside (e.loop i) v) e.loops
        (record {
          at = j;
          below = h.below;
          none = λ i l. (says_false (test_says v i)).1 (λ q. h.first i q.0 l q.1);
          holds = says_is (test_says v j) (h.from, h.has);
        })

    pub held_test : ltb (step_loop e k v) e.loops ≡ true
    held_test = lt-ltb (step_loop e k v) e.loops (omega (arith, held_outer, h.below))

    pub held_first : step_first e k v ≡ (e.loop j).first
    unfolding step_first
    held_first = rw (held_test, held_outer) refl

    pub held_time : (cost t : ℕ → ℕ) → step_time e cost t k v ≡ t j
    unfolding step_time
    held_time cost t = rw (held_test, held_outer) refl

module _ (e : Case) (cost t : ℕ → ℕ) (k a m : ℕ) where
  -- the number of node v in the table of ways
  abbrev pub way : ℕ → ℕ
  way v = get_or (ways e cost t k a m) v 0

  -- the numbers that node v's is made from
  abbrev pub past : ℕ → ℕ → ℕ
  past v u = get_or (in_turn (way_to e cost t k a) v) u 0

  pub way_made : (v : ℕ) → v < m → way v ≡ way_to e cost t k a (past v) v
  unfolding ways
  way_made v h = turn_at (way_to e cost t k a) m v h

  pub past_way : (u v : ℕ) → u < v → v < m → past v u ≡ way u
  unfolding ways
  past_way u v l h = turn_same (way_to e cost t k a) v m u l (omega arith)

  -- inside a step the way is the step's
  pub way_inside : (v : ℕ) → v < m → step_first e k v < v → way v ≡ way (step_first e k v)
  unfolding way_to
  way_inside v h l = way_made v h ∙ rw (lt-ltb _ _ l) (past_way (step_first e k v) v l h)

  -- a step takes up each way that comes before it
  way_on : (v b : ℕ) → v < m → step_first e k v ≡ v → 1 ≤ b → b ≤ way_before e a (past v) v → b + step_time e cost t k v ≤ way v
  unfolding way_to
  way_on v b h s p l =
      rw (way_made v h, le-ltb (step_first e k v) v (omega arith), ne_eqb (way_before e a (past v) v) 0 (omega arith)) (omega arith)

  pub way_start : a < m → step_first e k a ≡ a → 1 + step_time e cost t k a ≤ way a
  unfolding way_before
  way_start h s = way_on a 1 h s (omega arith) (rw (eq-eqb a a refl) (omega arith))

  -- a forward edge lengthens the way
  pub way_edge : (u v : ℕ) → Edge e u v → u < v → v < m → step_first e k v ≡ v → 1 ≤ way u → way u + step_time e cost t k v ≤ way v
  unfolding way_before
  way_edge u v (i, below, from, to) l h s p =
      let z : cond (eqb (e.to i) v && ltb (e.from i) v) (past v (e.from i)) 0 ≡ way u = rw (eq-eqb (e.to i) v to, from, lt-ltb u v l) (past_way u v l h) in
      way_on v (way u) h s p
      (omega (arith, highest_at (λ i. cond (eqb (e.to i) v && ltb (e.from i) v) (past v (e.from i)) 0) e.edges i below))

  pub way_le : (v : ℕ) → v < m → way v ≤ suc (longest_way e cost t k a m)
  unfolding longest_way
  way_le v h = omega (arith, highest_at way m v h)

-- The steps from number k on read the times of those loops only.
module _ (e : Case) (cost t t' : ℕ → ℕ) (k : ℕ) (same : (j : ℕ) → k ≤ j → j < e.loops → t j ≡ t' j) where
  step_same : (v : ℕ) → step_time e cost t k v ≡ step_time e cost t' k v
  step_same v =
      ⊎_elim
      (λ f. free_time e k v f cost t ∙ sym (free_time e k v f cost t'))
      (λ r. held_time e k v r.0 r.1 cost t ∙ same r.0 r.1.from r.1.below ∙ sym (held_time e k v r.0 r.1 cost t'))
      (step_of e k v)

  way_same : (a : ℕ) (w : ℕ → ℕ) (v : ℕ) → way_to e cost t k a w v ≡ way_to e cost t' k a w v
  unfolding way_to
  way_same a w v = rw (step_same v) refl

  pub longest_same : (a m : ℕ) → longest_way e cost t k a m ≡ longest_way e cost t' k a m
  unfolding longest_way ways
  longest_same a m = rw (turn_agree (way_to e cost t k a) (way_to e cost t' k a) (way_same a) m) refl

-- "the longest way from the header along forward edges, each inner loop taken as one step of its own time, times B, is the loop's time for one entry"
pub time_is :
    (e : Case) (cost : ℕ → ℕ) (j : ℕ) → j < e.loops
    → time_of e cost j ≡ (e.loop j).bound * longest_way e cost (time_of e cost) (suc j) (e.loop j).first (suc (e.loop j).last)
unfolding time_of loop_times entry_time
time_is e cost j h =
    turn_at maker e.loops (e.loops - suc j) (omega arith)
    ∙ ap (entry_time e cost after) (omega arith)
    ∙ ap (λ x. (e.loop j).bound * x) (longest_same e cost after (time_of e cost) (suc j) same (e.loop j).first (suc (e.loop j).last))
  where
    maker : (ℕ → ℕ) → ℕ → ℕ
    maker t i = entry_time e cost (λ j. t (e.loops - suc j)) (e.loops - suc i)

    -- the times of the loops after j, as loop j's is made from them
    after : ℕ → ℕ
    after i = get_or (in_turn maker (e.loops - suc j)) (e.loops - suc i) 0

    same : (i : ℕ) → suc j ≤ i → i < e.loops → after i ≡ time_of e cost i
    same i l b = turn_same maker (e.loops - suc j) e.loops (e.loops - suc i) (omega arith) (omega arith)
