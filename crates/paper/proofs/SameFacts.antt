-- In two cases with the same graph, two facts with the same head and the same rows break the same of the rules 12, 14 and 16 to 18.
use Prim.Native.Nat.{ℕ, ◌+◌, ◌-◌, ◌≤◌, ◌<◌}
use native.Mathlib.Omega.{arith}
use mathlib.Core.Path.{◌≡◌, refl, sym, ◌∙◌, ap, subst}
use mathlib.Core.Logic.{◌≢◌, ◌↔◌}
use mathlib.Core.Bool.{Bool, true, false, cond, not, ◌&&◌}
use lib.Dec.{eqb, ltb}
use Rattle.paper.specs.declared.Loop.{Loop}
use Rattle.paper.specs.Lists.{some}
use Rattle.paper.specs.Machines.{none}
use Rattle.paper.specs.Cases.{Row, Fact, Case, inside, size, scope_of, row_of, same_set, fetches}
use Rattle.paper.specs.Known.{Shaped}
use Rattle.paper.specs.Rules.{Passes}
use Rattle.paper.specs.Verdicts.{row_rules, step_rules, many_rules, evidence_rules}
use Rattle.paper.specs.Facts.{held, holds, wrong_head, bad_head, unfetched, bad_slot, bad_row, bad_row_at, lacks, after_b, after_many, after_set, breaks, bad_step_at, bad_many_at}
use Rattle.paper.proofs.Least.{some_same}
use Rattle.paper.proofs.Says.{says_true}
use Rattle.paper.proofs.RuleLaws.{past_by}
use Rattle.paper.proofs.Meaning.{In}
use Rattle.paper.proofs.GraphLaws.{inside_says}
use Rattle.paper.proofs.RowLaws.{held_low}
use Rattle.paper.proofs.SameGraphs.{SameGraph, range_same, range_low}

-- the same number and the same seven slots
pub record SameSlots (r s : Row) : Type 0 where
  pub number : r.number ≡ s.number
  pub slot : (k : ℕ) → k < 7 → r.slot k ≡ s.slot k

-- the same head, and the same rows below n
pub record SameFact (n : ℕ) (t u : Fact) : Type 0 where
  pub scope : t.scope ≡ u.scope
  pub block : t.block ≡ u.block
  pub limit : t.limit ≡ u.limit
  pub rows : (j : ℕ) → j < n → SameSlots (t.row j) (u.row j)

held_same : (r s : Row) → SameSlots r s → held r ≡ held s
unfolding held
held_same r s w = ap (λ (n : ℕ). cond (ltb n 8) n 0) w.number

holds_same : (r s : Row) → SameSlots r s → (x : ℕ) → holds r x ≡ holds s x
unfolding holds
holds_same r s w x =
    some_same _ _ (held r) (λ k l. rw (w.slot k (omega (arith, held_low r))) refl) ∙ ap (λ (n : ℕ). some (λ k. eqb (s.slot k) x) n) (held_same r s w)

module _ (e d : Case) (s : SameGraph e d) (t u : Fact) (f : SameFact (size (scope_of e t)) t u) where
  -- 12
  pub head_same : bad_head e t ≡ bad_head d u
  unfolding bad_head wrong_head
  head_same = rw (s.loops, s.ways, f.scope, f.block, f.limit) refl

  -- 16
  slot_same : (r r' : Row) → SameSlots r r' → (k : ℕ) → k < 7 → bad_slot e t r k ≡ bad_slot d u r' k
  unfolding bad_slot same_set
  slot_same r r' w k l =
      let m : k - 1 < 7 = omega arith in
      rw (held_same r r' w, s.sets, f.block, w.slot k l, w.slot (k - 1) m) refl

  row_same : (r r' : Row) → SameSlots r r' → bad_row e t r ≡ bad_row d u r'
  unfolding bad_row
  row_same r r' w = rw (some_same _ _ 7 (slot_same r r' w), w.number, f.limit) refl

  -- 17
  module _ (x : ℕ) (r r' q q' : Row) (a : SameSlots r r') (b : SameSlots q q') where
    keeps_same : some (λ k. not (holds q (r.slot k))) (held r) ≡ some (λ k. not (holds q' (r'.slot k))) (held r')
    keeps_same =
        some_same _ _ (held r) (λ k l. rw (a.slot k (omega (arith, held_low r)), holds_same q q' b (r'.slot k)) refl)
        ∙ ap (λ (n : ℕ). some (λ k. not (holds q' (r'.slot k))) n) (held_same r r' a)

    lacks_same : lacks e t x r q ≡ lacks d u x r' q'
    unfolding lacks same_set
    lacks_same = rw (keeps_same, holds_same q q' b x, s.sets, f.block) refl

    breaks_same : breaks e t x r q ≡ breaks d u x r' q'
    unfolding breaks after_b after_many after_set
    breaks_same = rw (lacks_same, a.number, b.number, f.block) refl

  module _ (there : t.scope ≢ none → t.scope < e.loops) where
    pub scope_same : scope_of e t ≡ scope_of d u
    scope_same = rw (← f.scope) (range_same e d s t.scope there)

    row_at : (j : ℕ) → j < size (scope_of e t) → bad_row_at e t j ≡ bad_row_at d u j
    unfolding bad_row_at
    row_at j l = row_same (t.row j) (u.row j) (f.rows j l)

    pub rows_same : some (bad_row_at e t) (size (scope_of e t)) ≡ some (bad_row_at d u) (size (scope_of d u))
    rows_same = some_same _ _ (size (scope_of e t)) row_at ∙ ap (λ (l : Loop). some (bad_row_at d u) (size l)) scope_same

    module _ (shaped : Shaped e) (some_node : 1 ≤ e.nodes) where
      low : (v : ℕ) → In (scope_of e t) v → v < e.nodes
      low = range_low e shaped some_node t.scope there

      -- 14
      fetches_same : (j : ℕ) → j < size (scope_of e t) → fetches e t j ≡ fetches d u j
      unfolding fetches
      fetches_same j l =
          rw (← scope_same, ← f.block, s.fetch ((scope_of e t).first + j) (low _ (omega arith, omega arith))) refl

      pub unfetched_same : unfetched e t ≡ unfetched d u
      unfolding unfetched
      unfetched_same =
          ap not (some_same _ _ (size (scope_of e t)) fetches_same ∙ ap (λ (l : Loop). some (fetches d u) (size l)) scope_same)

      row_of_lem : (v : ℕ) → In (scope_of e t) v → SameSlots (row_of e t v) (row_of d u v)
      row_of_lem v i =
          subst (λ (l : Loop). SameSlots (row_of e t v) (u.row (v - l.first))) scope_same (f.rows (v - (scope_of e t).first) (omega arith))

      step_same : (i : ℕ) → i < e.edges → bad_step_at e t i ≡ bad_step_at d u i
      unfolding bad_step_at
      step_same i l =
          rw (← scope_same, ← s.from i l, ← s.to i l)
          (go (e.from i) (e.to i) (inside (scope_of e t) (e.from i)) refl (inside (scope_of e t) (e.to i)) refl)
        where
          go : (x y : ℕ) (a : Bool) → inside (scope_of e t) x ≡ a → (b : Bool) → inside (scope_of e t) y ≡ b →
              ((a && b) && breaks e t (e.block x) (row_of e t x) (row_of e t y)) ≡ ((a && b) && breaks d u (d.block x) (row_of d u x) (row_of d u y))
          go x y true p true q =
              let i = says_true (inside_says (scope_of e t) x) p in
              let j = says_true (inside_says (scope_of e t) y) q in
              rw (← s.fetch x (low x i)) (breaks_same (e.block x) _ _ _ _ (row_of_lem x i) (row_of_lem y j))
          go x y true p false q = refl
          go x y false p b q = refl

      -- 18
      many_same : (j : ℕ) → j < size (scope_of e t) → bad_many_at e t j ≡ bad_many_at d u j
      unfolding bad_many_at
      many_same j l = rw (fetches_same j l, (f.rows j l).number) refl

      pub evidence_same : (i : ℕ) → Passes (evidence_rules e i t) ↔ Passes (evidence_rules d i u)
      unfolding row_rules step_rules many_rules
      evidence_same i =
          let rows = rows_same in
          let steps : some (bad_step_at e t) e.edges ≡ some (bad_step_at d u) d.edges
          = some_same _ _ e.edges step_same ∙ ap (λ (n : ℕ). some (bad_step_at d u) n) s.edges in
          let many : some (bad_many_at e t) (size (scope_of e t)) ≡ some (bad_many_at d u) (size (scope_of d u))
          = some_same _ _ (size (scope_of e t)) many_same ∙ ap (λ (l : Loop). some (bad_many_at d u) (size l)) scope_same in (
            λ h.
                let a = past_by _ _ _ h in
                let b = past_by _ _ _ a.1 in
                rw (sym rows ∙ a.0, sym steps ∙ b.0, sym many ∙ (past_by _ _ _ b.1).0) refl,
            λ h.
                let a = past_by _ _ _ h in
                let b = past_by _ _ _ a.1 in
                rw (rows ∙ a.0, steps ∙ b.0, many ∙ (past_by _ _ _ b.1).0) refl,
          )
