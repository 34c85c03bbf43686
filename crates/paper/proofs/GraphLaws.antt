-- What the tests of the rules 6 to 10 say, and that a graph that passes them and 26 is sound.
use Prim.Native.Nat.{ℕ, zero, suc, ◌-◌, ◌≤◌, ◌<◌}
use native.Mathlib.Omega.{arith}
use native.Mathlib.Decide.{ℕ_discrete, dec_le}
use mathlib.Core.Path.{◌≡◌, sym, ◌∙◌}
use mathlib.Core.Logic.{◌⊎◌, inl, inr, ⊎_elim}
use Rattle.paper.specs.declared.Loop.{Loop}
use Rattle.paper.specs.Cases.{Case, inside}
use Rattle.paper.specs.Graphs.{rises_from, crosses, beside, returns, around, wrong_edge, wrong_loop, bad_edge, bad_loop, bad_entry, bad_return, dead, count, bad_count}
use Rattle.paper.specs.Walks.{Edge}
use Rattle.paper.specs.Known.{Shaped}
use Rattle.paper.proofs.Least.{None}
use Rattle.paper.proofs.Says.{Says, says_lt, says_le, says_eq, says_not, says_and, says_or, says_some, says_false, says_stable}
use Rattle.paper.proofs.Meaning.{In, SoundGraph}
use Rattle.paper.proofs.Reached.{reached_says, dead_says}

pub inside_says : (l : Loop) (v : ℕ) → Says (In l v) (inside l v)
unfolding inside
inside_says l v = says_and (says_le _ _) (says_le _ _)

pub rises_says : (u' v' u v : ℕ) → Says ((u' < u) ⊎ ((u' ≡ u) × (v' < v))) (rises_from u' v' u v)
unfolding rises_from
rises_says u' v' u v = says_or (says_lt _ _) (says_and (says_eq _ _) (says_lt _ _))

-- loop b begins in loop a and ends after it
pub crosses_says : (a b : Loop) → Says ((b.first ≤ a.last) × (a.last < b.last)) (crosses a b)
unfolding crosses
crosses_says a b = says_and (says_le _ _) (says_lt _ _)

-- the edge enters the loop beside its header
pub beside_says : (l : Loop) (u v : ℕ) → Says (In l v × (¬ In l u × ¬ (v ≡ l.first))) (beside l u v)
unfolding beside
beside_says l u v = says_and (inside_says l v) (says_and (says_not (inside_says l u)) (says_not (says_eq _ _)))

pub returns_says : (l : Loop) (u v : ℕ) → Says (In l u × (v ≡ l.first)) (returns l u v)
unfolding returns
returns_says l u v = says_and (inside_says l u) (says_eq _ _)

-- loop o is strictly around loop l
pub around_says : (l o : Loop) → Says ((o.first < l.first) × (l.last ≤ o.last)) (around l o)
unfolding around
around_says l o = says_and (says_lt _ _) (says_le _ _)

module _ (e : Case) where
  pub edge_says : (i : ℕ) →
      Says
      ((e.nodes ≤ e.from i)
      ⊎ ((e.nodes ≤ e.to i)
      ⊎ ((0 < i) × ¬ ((e.from (i - 1) < e.from i) ⊎ ((e.from (i - 1) ≡ e.from i) × (e.to (i - 1) < e.to i))))))
      (bad_edge e i)
  unfolding bad_edge wrong_edge
  edge_says i = says_or (says_le _ _) (says_or (says_le _ _) (says_and (says_lt _ _) (says_not (rises_says _ _ _ _))))

  abbrev pub BadLoop : ℕ → Type 0
  BadLoop i =
      ((e.loop i).last < (e.loop i).first)
      ⊎ ((e.nodes ≤ (e.loop i).last)
      ⊎ (((e.loop i).bound < 1)
      ⊎ ((1000000 < (e.loop i).bound)
      ⊎ (((e.loop i).visits < 1)
      ⊎ (((0 < i) × ((e.loop i).first ≤ (e.loop (i - 1)).first))
      ⊎ ((j : ℕ) × (j < i) × (((e.loop i).first ≤ (e.loop j).last) × ((e.loop j).last < (e.loop i).last))))))))

  pub loop_says : (i : ℕ) → Says (BadLoop i) (bad_loop e i)
  unfolding bad_loop wrong_loop
  loop_says i =
      says_or (says_lt _ _)
      (says_or (says_le _ _)
      (says_or (says_lt _ _)
      (says_or (says_lt _ _)
      (says_or (says_lt _ _) (says_or (says_and (says_lt _ _) (says_le _ _)) (says_some (λ j. crosses_says (e.loop j) (e.loop i)) i))))))

  pub entry_says : (i : ℕ) →
      Says
      ((e.from i < e.to i)
      × ((j : ℕ) × (j < e.loops) × (In (e.loop j) (e.to i) × (¬ In (e.loop j) (e.from i) × ¬ (e.to i ≡ (e.loop j).first)))))
      (bad_entry e i)
  unfolding bad_entry
  entry_says i = says_and (says_lt _ _) (says_some (λ j. beside_says (e.loop j) (e.from i) (e.to i)) e.loops)

  pub return_says : (i : ℕ) →
      Says
      ((e.to i ≤ e.from i) × ¬ ((j : ℕ) × (j < e.loops) × (In (e.loop j) (e.from i) × (e.to i ≡ (e.loop j).first))))
      (bad_return e i)
  unfolding bad_return
  return_says i = says_and (says_le _ _) (says_not (says_some (λ j. returns_says (e.loop j) (e.from i) (e.to i)) e.loops))

  pub count_says : (v : ℕ) → Says (4294967295 < count e v) (bad_count e v)
  unfolding bad_count
  count_says v = says_lt _ _

-- What rule 7 gives: headers rise, loops are nested or apart, and end at nodes.
module _ (e : Case) (kept : None (bad_loop e) e.loops) where
  loop_kept : (j : ℕ) → j < e.loops → ¬ BadLoop e j
  loop_kept j h = (says_false (loop_says e j)).0 (kept j h)

  next_rises : (j : ℕ) → suc j < e.loops → (e.loop j).first < (e.loop (suc j)).first
  next_rises j h =
      let z : suc j - 1 ≡ j = omega arith in
      let n : ¬ ((e.loop (suc j)).first ≤ (e.loop j).first) = λ le. loop_kept (suc j) h (inr (inr (inr (inr (inr (inl (omega arith, rw z le))))))) in
      omega arith

  rises : (i j : ℕ) → i < j → j < e.loops → (e.loop i).first < (e.loop j).first
  rises i zero l h = absurd (omega arith)
  rises i (suc j) l h =
      elim (ℕ_discrete i j) [
        | yes p ↦ rw p (next_rises j h)
        | no n ↦ omega (arith, rises i j (omega arith) (omega arith), next_rises j h)
      ]

  nested : (i j : ℕ) → i < j → j < e.loops → (e.loop j).first ≤ (e.loop i).last → (e.loop j).last ≤ (e.loop i).last
  nested i j l h p = over (λ q. loop_kept j h (inr (inr (inr (inr (inr (inr (i, l, (p, q)))))))))
    where
      over : ¬ ((e.loop i).last < (e.loop j).last) → (e.loop j).last ≤ (e.loop i).last
      over n = omega arith

  fits : (j : ℕ) → j < e.loops → ((e.loop j).first ≤ (e.loop j).last) × ((e.loop j).last < e.nodes) × (1 ≤ (e.loop j).bound)
  fits j h = let n = loop_kept j h in all (λ p. n (inl p)) (λ p. n (inr (inl p))) (λ p. n (inr (inr (inl p))))
    where
      all : ¬ ((e.loop j).last < (e.loop j).first) → ¬ (e.nodes ≤ (e.loop j).last) → ¬ ((e.loop j).bound < 1) →
          ((e.loop j).first ≤ (e.loop j).last) × ((e.loop j).last < e.nodes) × (1 ≤ (e.loop j).bound)
      all a b c = (omega arith, omega arith, omega arith)

  limited : (j : ℕ) → j < e.loops → 1 ≤ (e.loop j).visits
  limited j h = over (λ p. loop_kept j h (inr (inr (inr (inr (inl p))))))
    where
      over : ¬ ((e.loop j).visits < 1) → 1 ≤ (e.loop j).visits
      over n = omega arith

-- No edge and no loop breaks one of the rules 6 and 7.
module _ (e : Case) (edges : None (bad_edge e) e.edges) (loops : None (bad_loop e) e.loops) where
  ends_at : (i : ℕ) → i < e.edges → (e.from i < e.nodes) × (e.to i < e.nodes)
  ends_at i h = let n = (says_false (edge_says e i)).0 (edges i h) in both (λ p. n (inl p)) (λ p. n (inr (inl p)))
    where
      both : ¬ (e.nodes ≤ e.from i) → ¬ (e.nodes ≤ e.to i) → (e.from i < e.nodes) × (e.to i < e.nodes)
      both a b = (omega arith, omega arith)

  climbs_at : (i : ℕ) → suc i < e.edges → e.from i ≤ e.from (suc i)
  climbs_at i h =
      let z : suc i - 1 ≡ i = omega arith in
      let n = (says_false (edge_says e (suc i))).0 (edges (suc i) h) in
      elim (dec_le (e.from i) (e.from (suc i))) [
        | yes l ↦ l
        | no l ↦ absurd (n (inr (inr (omega arith, λ q. ⊎_elim (λ x. omega arith) (λ x. omega arith) (rw z at q)))))
      ]

  pub shaped : Shaped e
  shaped = record { ends = ends_at; climbs = climbs_at; fits = fits e loops; limited = limited e loops; rises = rises e loops; nested = nested e loops }

-- What rule 8 gives.
pub forward_at : (e : Case) → None (bad_entry e) e.edges → (u v : ℕ) → Edge e u v → u < v → (j : ℕ) → j < e.loops → In (e.loop j) v → ¬ In (e.loop j) u → v ≡ (e.loop j).first
forward_at e entries u v (i, h, from, to) lt j l iv nu =
    let n = (says_false (entry_says e i)).0 (entries i h) in
    says_stable (says_eq v (e.loop j).first) λ ne.
    n (omega arith, (j, l, (rw to iv, (rw from nu, rw to ne))))

-- What rule 9 gives.
pub back_at : (e : Case) → None (bad_return e) e.edges → (u v : ℕ) → Edge e u v → v ≤ u → (j : ℕ) × (j < e.loops) × (v ≡ (e.loop j).first) × In (e.loop j) u
back_at e returns u v (i, h, from, to) le =
    let n = (says_false (return_says e i)).0 (returns i h) in
    let r = says_stable (says_some (λ j. returns_says (e.loop j) (e.from i) (e.to i)) e.loops) (λ m. n (omega arith, m)) in
    (r.0, r.1, sym to ∙ r.2.1, (omega (arith, r.2.0), omega (arith, r.2.0)))

-- Beyond that, no edge and no node breaks one of the rules 8 to 10 and 26.
pub graph_sound : (e : Case) → Shaped e → None (bad_entry e) e.edges → None (bad_return e) e.edges → None (dead e) e.nodes → None (bad_count e) e.nodes → SoundGraph e
graph_sound e shape entries returns lives counts =
    record {
      ends = λ u v x. ends_of u v x.0 x.1 x.2 x.3;
      fits = shape.fits;
      rises = shape.rises;
      nested = shape.nested;
      forward = forward_at e entries;
      back = back_at e returns;
      reached = λ v h. says_stable (reached_says e shape v) ((says_false (dead_says e shape v)).0 (lives v h));
      counts = λ v h. low v ((says_false (count_says e v)).0 (counts v h));
    }
  where
    -- edge i, which goes from u to v
    ends_of : (u v i : ℕ) → i < e.edges → e.from i ≡ u → e.to i ≡ v → (u < e.nodes) × (v < e.nodes)
    ends_of u v i h from to = (omega (arith, shape.ends i h), omega (arith, shape.ends i h))

    low : (v : ℕ) → ¬ (4294967295 < count e v) → count e v ≤ 4294967295
    low v n = omega arith
