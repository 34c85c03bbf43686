-- One pass over the edges in file order gives each node the number that the table of ways has for it, cut: when an edge has its turn, all edges into its start's step have had theirs.
use Prim.Native.Nat.{ℕ, zero, suc, ◌+◌, ◌-◌, ◌≤◌, ◌<◌, min, max}
use native.Mathlib.Omega.{arith}
use native.Mathlib.Decide.{dec_lt}
use mathlib.Core.Path.{◌≡◌, refl, sym, ◌∙◌, ap}
use mathlib.Core.Logic.{dite}
use mathlib.Core.Bool.{Bool, cond, ◌&&◌}
use borrow.Author.Tests.{lt-ltb, le-ltb, ne_eqb}
use lib.Dec.{eqb, ltb}
use lib.ListN.{get_or}
use Rattle.paper.specs.Lists.{bit, highest_to, in_turn}
use Rattle.paper.specs.Cases.{Case}
use Rattle.paper.specs.Known.{Shaped}
use Rattle.paper.specs.Times.{step_first, step_time, way_before, way_to, longest_way}
use Rattle.paper.proofs.Climbs.{climbs}
use Rattle.paper.proofs.Highest.{highest_same, highest_past}
use Rattle.paper.proofs.TurnLaws.{turn_at, turn_same}
use Rattle.paper.proofs.Says.{Says, holds, fails, says_lt, says_eq, says_and}
use Rattle.paper.proofs.CutLaws.{longest_cut}
use Rattle.timing.specs.Pushed.{number_by, carried, before_to}
use Rattle.timing.proofs.Firsts.{first_le, first_first, first_time}

module _ (e : Case) (shape : Shaped e) (cost t : ℕ → ℕ) (K k a m : ℕ) where
  -- the table of ways, cut as it is made
  abbrev maker : (ℕ → ℕ) → ℕ → ℕ
  maker w v = min (way_to e cost t k a w v) (suc K)

  abbrev way : ℕ → ℕ
  way v = get_or (in_turn maker m) v 0

  -- what edge i brings to node v
  abbrev came : ℕ → ℕ → ℕ
  came v i = cond (eqb (e.to i) v && ltb (e.from i) v) (way (e.from i)) 0

  -- what the first i edges bring
  abbrev before : ℕ → ℕ → ℕ
  before i v = max (bit (eqb v a)) (highest_to (came v) i)

  way_made : (v : ℕ) → v < m → way v ≡ maker (λ u. get_or (in_turn maker v) u 0) v
  way_made v h = turn_at maker m v h

  past_way : (u v : ℕ) → u < v → v < m → get_or (in_turn maker v) u 0 ≡ way u
  past_way u v l h = turn_same maker v m u l (omega arith)

  -- only forward edges bring something
  brought : (v i : ℕ) → v < m → cond (eqb (e.to i) v && ltb (e.from i) v) (get_or (in_turn maker v) (e.from i) 0) 0 ≡ came v i
  brought v i h = go (says_and (says_eq (e.to i) v) (says_lt (e.from i) v))
    where
      go : {b : Bool} → Says ((e.to i ≡ v) × (e.from i < v)) b → cond b (get_or (in_turn maker v) (e.from i) 0) 0 ≡ cond b (way (e.from i)) 0
      go (holds r) = past_way (e.from i) v r.1 h
      go (fails n) = refl

  before_is : (v : ℕ) → v < m → way_before e a (λ u. get_or (in_turn maker v) u 0) v ≡ before e.edges v
  unfolding way_before
  before_is v h =
      ap (max (bit (eqb v a)))
      (highest_same (λ i. cond (eqb (e.to i) v && ltb (e.from i) v) (get_or (in_turn maker v) (e.from i) 0) 0) (came v) e.edges (λ i l. brought v i h))

  cut_adds : (b s : ℕ) → min (cond (eqb b 0) 0 (b + s)) (suc K) ≡ cond (eqb b 0) 0 (min (b + s) (suc K))
  cut_adds zero s = omega arith
  cut_adds (suc b) s = rw (ne_eqb (suc b) 0 (omega arith)) refl

  -- the number of a step's first node
  first_way : (v : ℕ) → v < m → step_first e k v ≡ v → way v ≡ cond (eqb (before e.edges v) 0) 0 (min (before e.edges v + step_time e cost t k v) (suc K))
  unfolding way_to
  first_way v h s =
      way_made v h ∙ rw (le-ltb (step_first e k v) v (omega arith), before_is v h) (cut_adds (before e.edges v) (step_time e cost t k v))

  -- and of the other nodes of the step
  step_way : (v : ℕ) → v < m → way v ≡ way (step_first e k v)
  unfolding way_to
  step_way v h =
      dite (dec_lt (step_first e k v) v)
      (λ l.
      let z = past_way (step_first e k v) v l h in
      let y = way_made (step_first e k v) (omega arith) in
      way_made v h ∙ rw (lt-ltb (step_first e k v) v l, z) (omega (arith, y)))
      (λ l. ap way (omega (arith, first_le e k v)))

  -- so a node's number is made of what all edges bring to its step
  number_is : (w : ℕ → ℕ) (v : ℕ) → v < m → w (step_first e k v) ≡ before e.edges (step_first e k v) → number_by e cost t K k w v ≡ way v
  unfolding number_by
  number_is w v h z =
      rw (z, ← first_time e k v shape cost t)
      (sym (first_way (step_first e k v) (omega (arith, first_le e k v)) (first_first e k v shape))
      ∙ sym (step_way v h))

  -- An edge that starts at u or after it brings nothing to u.
  settled : (i u : ℕ) → i < e.edges → u ≤ e.from i → before i u ≡ before e.edges u
  settled i u h l =
      ap (max (bit (eqb u a)))
      (sym
      (highest_past (came u) i e.edges (omega arith)
      (λ j p q. nothing j (omega (arith, climbs e.from e.edges shape.climbs i j p q)))))
    where
      nothing : (j : ℕ) → u ≤ e.from j → came u j ≡ 0
      nothing j p = go (says_and (says_eq (e.to j) u) (says_lt (e.from j) u))
        where
          go : {b : Bool} → Says ((e.to j ≡ u) × (e.from j < u)) b → cond b (way (e.from j)) 0 ≡ 0
          go (holds r) = absurd (omega arith)
          go (fails n) = refl

  -- what the pass has after i edges
  pushed : (i : ℕ) → i ≤ e.edges → (v : ℕ) → v < m → before_to e cost t K k a i v ≡ before i v
  unfolding before_to carried highest_to
  pushed zero l v h = omega arith
  pushed (suc i) l v h = go (says_eq v (e.to i)) (says_eq (e.to i) v) (says_lt (e.from i) v) (pushed i (omega arith))
    where
      go :
          {b c d : Bool} → Says (v ≡ e.to i) b → Says (e.to i ≡ v) c → Says (e.from i < v) d
          → ((v : ℕ) → v < m → before_to e cost t K k a i v ≡ before i v)
          → cond b (max (before_to e cost t K k a i v) (cond d (number_by e cost t K k (λ u. before_to e cost t K k a i u) (e.from i)) 0)) (before_to e cost t K k a i v)
          ≡ max (bit (eqb v a)) (max (highest_to (came v) i) (cond (c && d) (way (e.from i)) 0))
      go (fails p) (holds q) d ih = absurd (p (sym q))
      go (holds p) (fails q) d ih = absurd (q (sym p))
      go (fails p) (fails q) d ih = omega (arith, ih v h)
      go (holds p) (holds q) (fails d) ih = omega (arith, ih v h)
      go (holds p) (holds q) (holds d) ih =
          let f = first_le e k (e.from i) in
          let z = ih (step_first e k (e.from i)) (omega arith) ∙ settled i (step_first e k (e.from i)) l f in
          omega (arith, ih v h, number_is (λ u. before_to e cost t K k a i u) (e.from i) (omega arith) z)

  -- "the longest way", cut: w is the table after all edges, x has the times that are not cut
  pub longest_pushed :
      (x : ℕ → ℕ) → ((j : ℕ) → k ≤ j → j < e.loops → min (t j) K ≡ min (x j) K)
      → (w : ℕ → ℕ) → ((v : ℕ) → v < m → w v ≡ before_to e cost t K k a e.edges v)
      → highest_to (number_by e cost t K k w) m - 1 ≡ min (longest_way e cost x k a m) K
  longest_pushed x same w at =
      ap (λ n. n - 1)
      (highest_same (number_by e cost t K k w) way m
      (λ v h.
      let s : step_first e k v < m = omega (arith, first_le e k v) in
      number_is w v h (at (step_first e k v) s ∙ pushed e.edges (omega arith) (step_first e k v) s)))
      ∙ longest_cut e cost t x K k a same m
