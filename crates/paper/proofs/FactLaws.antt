-- What the rules 12, 14, 16 to 18, 24 and 25 say of a whole fact, both ways.
use Rattle.std.specs.Prelude.{Ok}
use Prim.Native.Nat.{ℕ, ◌+◌, ◌-◌, ◌≤◌, ◌<◌}
use native.Mathlib.Omega.{arith}
use mathlib.Core.Path.{◌≡◌, refl, ◌∙◌, ap, subst}
use mathlib.Core.Logic.{◌⊎◌, inl, inr, ⊎_elim, ◌↔◌}
use mathlib.Core.Bool.{Bool, true, false}
use borrow.Author.Tests.{not-false}
use Rattle.paper.specs.Answers.{Verdict}
use Rattle.paper.specs.Machines.{none}
use Rattle.paper.specs.Lists.{some}
use Rattle.paper.specs.Cases.{Fact, Case, size, scope_of, row_of, fetches}
use Rattle.paper.specs.Facts.{wrong_head, bad_head, unfetched, bad_row_at, bad_step_at, bad_many_at, least_node}
use Rattle.paper.specs.Rules.{Passes}
use Rattle.paper.specs.Verdicts.{row_rules, step_rules, many_rules, evidence_rules}
use Rattle.paper.proofs.Least.{None, none_some, some_none, is_some, least_is}
use Rattle.paper.proofs.Says.{Says, says_lt, says_le, says_eq, says_not, says_and, says_or, says_some, says_false, says_true}
use Rattle.paper.proofs.RuleLaws.{past_by}
use Rattle.paper.proofs.Meaning.{In, SoundRow, EdgeRule, SoundEvidence, SoundHead}
use Rattle.paper.proofs.GraphLaws.{inside_says}
use Rattle.paper.proofs.RowLaws.{row_law, edge_law, breaks_says}

module _ (e : Case) (t : Fact) where
  -- 12
  head_says : Says (((e.loops ≤ t.scope) × ¬ (t.scope ≡ none)) ⊎ ((t.block ≡ none) ⊎ ((t.limit < 1) ⊎ (e.ways < t.limit)))) (bad_head e t)
  unfolding bad_head wrong_head
  head_says = says_or (says_and (says_le _ _) (says_not (says_eq _ _))) (says_or (says_eq _ _) (says_or (says_lt _ _) (says_lt _ _)))

  pub head_sound : bad_head e t ≡ false → SoundHead e t
  head_sound h =
      let n = (says_false head_says).0 h in
      record {
        scope = λ p. let m : ¬ (e.loops ≤ t.scope) = λ q. n (inl (q, p)) in omega arith;
        block = λ p. n (inr (inl p));
        low = let m : ¬ (t.limit < 1) = λ p. n (inr (inr (inl p))) in omega arith;
        high = let m : ¬ (e.ways < t.limit) = λ p. n (inr (inr (inr p))) in omega arith;
      }

  pub sound_head : SoundHead e t → bad_head e t ≡ false
  sound_head h =
      (says_false head_says).1
      (⊎_elim (λ p. omega (arith, h.scope p.1)) (⊎_elim h.block (⊎_elim (λ p. omega (arith, h.low)) (λ p. omega (arith, h.high)))))

  -- the scope's nodes, by node and by place
  abbrev first : ℕ
  first = (scope_of e t).first

  abbrev last : ℕ
  last = (scope_of e t).last

  fetches_says : (j : ℕ) → Says (e.block (first + j) ≡ t.block) (fetches e t j)
  unfolding fetches
  fetches_says j = says_eq _ _

  back : (v : ℕ) → first ≤ v → first + (v - first) ≡ v
  back v h = omega arith

  place : (j : ℕ) → first + j - first ≡ j
  place j = omega arith

  below : (v : ℕ) → In (scope_of e t) v → v - first < size (scope_of e t)
  below v i = omega arith

  within : (j : ℕ) → j < size (scope_of e t) → In (scope_of e t) (first + j)
  within j h = (omega arith, omega arith)

  -- "16 and 18 add the least such node": it is in the scope, the test holds there, and at no node of the scope before it
  pub least_node_lem : (p : ℕ → Bool) → some p (size (scope_of e t)) ≡ true →
      In (scope_of e t) (least_node e t p) × (p (least_node e t p - first) ≡ true) × ((v : ℕ) → In (scope_of e t) v → v < least_node e t p → p (v - first) ≡ false)
  unfolding least_node
  least_node_lem p h =
      let w = is_some p (size (scope_of e t)) h in
      let z = least_is p (size (scope_of e t)) w in
      let at : least_node e t p ≡ first + w.at = ap (λ (n : ℕ). first + n) z in (
        rw at (within w.at w.below),
        rw (at, place w.at) w.holds,
        λ v i l. w.none (v - first) (omega arith),
      )

  -- 14
  pub unfetched_says : Says (¬ ((j : ℕ) × (j < size (scope_of e t)) × (e.block (first + j) ≡ t.block))) (unfetched e t)
  unfolding unfetched
  unfetched_says = says_not (says_some fetches_says (size (scope_of e t)))

  pub fetched : unfetched e t ≡ false → (v : ℕ) × In (scope_of e t) v × (e.block v ≡ t.block)
  unfolding unfetched
  fetched h =
      let w = is_some _ _ (not-false _ h) in
      (first + w.at, within w.at w.below, says_true (fetches_says w.at) w.holds)

  -- an edge that breaks the edge rule
  abbrev Step : ℕ → Type 0
  Step i = EdgeRule e t (e.block (e.from i)) (row_of e t (e.from i)) (row_of e t (e.to i))

  step_keeps : (i : ℕ) → bad_step_at e t i ≡ false → In (scope_of e t) (e.from i) → In (scope_of e t) (e.to i) → Step i
  unfolding bad_step_at
  step_keeps i h a b =
      let s = says_and (says_and (inside_says _ _) (inside_says _ _)) (breaks_says e t _ _ _) in
      (edge_law e t _ _ _).0 ((says_false (breaks_says e t _ _ _)).1 (λ x. (says_false s).0 h ((a, b), x)))

  keeps_step : (i : ℕ) → (In (scope_of e t) (e.from i) → In (scope_of e t) (e.to i) → Step i) → bad_step_at e t i ≡ false
  unfolding bad_step_at
  keeps_step i c =
      (says_false (says_and (says_and (inside_says _ _) (inside_says _ _)) (breaks_says e t _ _ _))).1
      (λ x. (says_false (breaks_says e t _ _ _)).0 ((edge_law e t _ _ _).1 (c x.0.0 x.0.1)) x.1)

  pub many_says : (j : ℕ) → Says ((e.block (first + j) ≡ t.block) × ((t.row j).number ≡ 8)) (bad_many_at e t j)
  unfolding bad_many_at
  many_says j = says_and (fetches_says j) (says_eq _ _)

  -- no row, edge or node breaks one of the rules 16 to 18, 24 and 25
  record KeptEvidence : Type 0 where
    rows : None (bad_row_at e t) (size (scope_of e t))
    edges : None (bad_step_at e t) e.edges
    many : None (bad_many_at e t) (size (scope_of e t))

  row_at : (v : ℕ) → In (scope_of e t) v → None (bad_row_at e t) (size (scope_of e t)) → SoundRow e t (row_of e t v)
  unfolding bad_row_at
  row_at v i n = (row_law e t _).0 (n (v - first) (below v i))

  kept_sound : KeptEvidence → SoundEvidence e t
  kept_sound k =
      record {
        rows = λ v i. row_at v i k.rows;
        edges = λ u v x a b. edge u v x.0 x.1 x.2 x.3 a b;
        many = λ v i p q. (says_false (many_says (v - first))).0 (k.many (v - first) (below v i)) (ap e.block (back v i.0) ∙ p, q);
      }
    where
      edge : (u v i : ℕ) → i < e.edges → e.from i ≡ u → e.to i ≡ v → In (scope_of e t) u → In (scope_of e t) v → EdgeRule e t (e.block u) (row_of e t u) (row_of e t v)
      edge u v i h p q = rw (← p, ← q) (step_keeps i (k.edges i h))

  sound_kept : SoundEvidence e t → KeptEvidence
  unfolding bad_row_at
  sound_kept s =
      record {
        rows = λ j h. (row_law e t _).1 (subst (λ (i : ℕ). SoundRow e t (t.row i)) (place j) (s.rows (first + j) (within j h)));
        edges = λ i h. keeps_step i (λ a b. s.edges (e.from i) (e.to i) (i, h, refl, refl) a b);
        many = λ j h. (says_false (many_says j)).1 (λ p. s.many (first + j) (within j h) p.0 (ap (λ (i : ℕ). (t.row i).number) (place j) ∙ p.1));
      }

  pub evidence_kept : (i : ℕ) (rest : Verdict) → evidence_rules e i t rest ≡ Ok tt → SoundEvidence e t × (rest ≡ Ok tt)
  unfolding row_rules step_rules many_rules
  evidence_kept i rest h =
      let a = past_by _ _ _ h in
      let b = past_by _ _ _ a.1 in
      let c = past_by _ _ _ b.1 in
      (kept_sound (record { rows = none_some _ _ a.0; edges = none_some _ _ b.0; many = none_some _ _ c.0 }), c.1)

  -- The rows pass 16 to 18, 24 and 25, at whatever place, exactly when they are sound evidence.
  pub evidence_law : (i : ℕ) → Passes (evidence_rules e i t) ↔ SoundEvidence e t
  unfolding row_rules step_rules many_rules
  evidence_law i = (
    λ h. (evidence_kept i _ h).0,
    λ s.
        let k = sound_kept s in
        rw (some_none _ _ k.rows, some_none _ _ k.edges, some_none _ _ k.many) refl,
  )
