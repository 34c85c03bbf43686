-- The number in the table of ways is the longest way: no way is longer, and one is as long. No rule is needed for this.
use Prim.Native.Nat.{ℕ, zero, suc, ◌+◌, ◌-◌, ◌≤◌, ◌<◌}
use native.Mathlib.Omega.{arith}
use native.Mathlib.Decide.{dec_le}
use mathlib.Core.Path.{◌≡◌, refl, sym, ◌∙◌, subst}
use mathlib.Core.Logic.{dite, ⊎_elim}
use mathlib.Core.Bool.{Bool, cond, ◌&&◌}
use borrow.Author.Tests.{le-ltb, ne_eqb}
use lib.Dec.{eqb, ltb}
use Rattle.paper.specs.Lists.{bit, highest_to}
use Rattle.paper.specs.Cases.{Case}
use Rattle.paper.specs.Times.{step_first, step_time, way_before, way_to, longest_way, Way, begun, onward, inside_it}
use Rattle.paper.proofs.Highest.{highest_at, highest_is}
use Rattle.paper.proofs.Says.{Says, holds, fails, says_and, says_eq, says_lt}
use Rattle.paper.proofs.TimeLaws.{step_of, free_first, held_first, way, past, way_made, past_way, way_inside, way_start, way_edge}

module _ (e : Case) (cost t : ℕ → ℕ) (k a m : ℕ) where
  abbrev to : ℕ → ℕ
  to v = way e cost t k a m v

  abbrev Leads : ℕ → ℕ → Type 0
  Leads v x = Way e cost t k a v x

  first_le : (v : ℕ) → step_first e k v ≤ v
  first_le v =
      ⊎_elim (λ f. omega (arith, free_first e k v f)) (λ r. omega (arith, held_first e k v r.0 r.1, r.1.has)) (step_of e k v)

  -- no way is longer
  pub leads_le : {v x : ℕ} → Leads v x → v < m → suc x ≤ to v
  leads_le (begun s) h = omega (arith, way_start e cost t k a m h s)
  leads_le (onward {u = u} {v = v} w d l s) h =
      let z = leads_le w (omega arith) in
      omega (arith, way_edge e cost t k a m u v d l h s (omega arith))
  leads_le (inside_it {v = v} w l) h = omega (arith, leads_le w (omega arith), way_inside e cost t k a m v h l)

  -- the number of a step's first node is made of what comes before it
  way_adds :
      (v : ℕ) → v < m → step_first e k v ≡ v → 1 ≤ to v
      → (1 ≤ way_before e a (past e cost t k a m v) v) × (way_before e a (past e cost t k a m v) v + step_time e cost t k v ≡ to v)
  unfolding way_to
  way_adds v h s p = go (way_before e a (past e cost t k a m v) v) (way_made e cost t k a m v h ∙ rw (le-ltb (step_first e k v) v (omega arith)) refl)
    where
      go : (b : ℕ) → to v ≡ cond (eqb b 0) 0 (b + step_time e cost t k v) → (1 ≤ b) × (b + step_time e cost t k v ≡ to v)
      go zero z = absurd (omega arith)
      go (suc b) z = let y = rw (ne_eqb (suc b) 0 (omega arith)) at z in omega arith

  -- so a way begins there, or comes along an edge
  comes :
      (v x : ℕ) → v < m → step_first e k v ≡ v → to v ≡ suc x → ((u y : ℕ) → u < v → to u ≡ suc y → Leads u y) → Leads v x
  unfolding way_before
  comes v x h s z ih =
      let q = way_adds v h s (omega arith) in
      dite (dec_le (highest_to came e.edges) (bit (eqb v a)))
      (λ l. starts (says_eq v a) (omega arith) (omega arith))
      (λ l.
      let (i, b, y) = highest_is came e.edges (omega arith) in
      by_edge i b (says_and (says_eq (e.to i) v) (says_lt (e.from i) v)) (omega arith) (omega arith))
    where
      came : ℕ → ℕ
      came i = cond (eqb (e.to i) v && ltb (e.from i) v) (past e cost t k a m v (e.from i)) 0

      starts : {b : Bool} → Says (v ≡ a) b → 1 ≤ bit b → x ≡ (bit b - 1) + step_time e cost t k v → Leads v x
      starts (fails n) p y = absurd (omega arith)
      starts (holds r) p y =
          let y' : step_time e cost t k v ≡ x = omega arith in
          subst (λ (x : ℕ). Leads v x) y' (subst (λ (u : ℕ). Leads u (step_time e cost t k u)) (sym r) (begun (rw (← r) s)))

      by_edge :
          (i : ℕ) → i < e.edges → {b : Bool} → Says ((e.to i ≡ v) × (e.from i < v)) b
          → 1 ≤ cond b (past e cost t k a m v (e.from i)) 0
          → suc x ≡ cond b (past e cost t k a m v (e.from i)) 0 + step_time e cost t k v → Leads v x
      by_edge i below (fails n) p y = absurd (omega arith)
      by_edge i below (holds r) p y =
          let w = past_way e cost t k a m (e.from i) v r.1 h in
          let y' : (to (e.from i) - 1) + step_time e cost t k v ≡ x = omega arith in
          let g = ih (e.from i) (to (e.from i) - 1) r.1 (omega arith) in
          subst (λ (x : ℕ). Leads v x) y' (onward g (i, below, refl, r.0) r.1 s)

  -- one is as long
  to_leads : (n v x : ℕ) → v < n → v < m → to v ≡ suc x → Leads v x
  to_leads zero v x l h z = absurd (omega arith)
  to_leads (suc n) v x l h z =
      dite (dec_le v (step_first e k v))
      (λ q. comes v x h (omega (arith, first_le v)) z (λ u y b. to_leads n u y (omega arith) (omega arith)))
      (λ q. inside_it (to_leads n (step_first e k v) x (omega arith) (omega arith) (sym (way_inside e cost t k a m v h (omega arith)) ∙ z)) (omega arith))

  -- "the longest way", where node a begins a step
  pub longest_is :
      a < m → step_first e k a ≡ a
      → ((v x : ℕ) → Way e cost t k a v x → v < m → x ≤ longest_way e cost t k a m)
      × ((v : ℕ) × (v < m) × Way e cost t k a v (longest_way e cost t k a m))
  unfolding longest_way
  longest_is h s = (
    λ v x w l. omega (arith, leads_le w l, highest_at to m v l),
    let (v, l, z) = highest_is to m (omega (arith, way_start e cost t k a m h s, highest_at to m a h)) in
        (v, l, to_leads (suc v) v (longest_way e cost t k a m) (omega arith) l (omega (arith, way_start e cost t k a m h s, highest_at to m a h))),
  )
