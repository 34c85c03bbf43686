-- One edge of a pass: it leaves the scope, or changes nothing, or its end gets another row.
use Prim.Native.Nat.{ℕ, ◌-◌, ◌≤◌}
use mathlib.Core.Path.{◌≡◌, refl, sym, ◌∙◌, ap, ap₂, subst}
use mathlib.Core.Bool.{Bool, true, false, not, ◌&&◌}
use mathlib.Core.Logic.{◌≢◌}
use mathlib.Core.List.{List}
use lib.Dec.{leb}
use borrow.Author.Tests.{eq-eqb, ne_eqb, not-true, not-false}
use Rattle.paper.specs.Cases.{Fact, Case, inside, scope_of}
use Rattle.paper.proofs.Says.{says_true, says_and, says_le}
use Rattle.search.specs.Steps.{number_of, stepped}
use Rattle.search.specs.Passes.{table_row, with_row, node_row, within, stepped_at, changes, after_edge}
use Rattle.search.proofs.Searching.{Searched, numbers_low}
use Rattle.gather.specs.declared.sought.Sought.{Sought}
use Rattle.gather.specs.Seeking.{Seeks}

both : (x y : Bool) → (x && y) ≡ true → (x ≡ true) × (y ≡ true)
both true true h = (refl, refl)
both true false h = (refl, h)
both false y h = (h, absurd_false y h)
  where
    absurd_false : (y : Bool) → false ≡ true → y ≡ true
    absurd_false true h = refl
    absurd_false false h = h

and_false : (x : Bool) → (x && false) ≡ false
and_false true = refl
and_false false = refl

-- x and y tell whether the edge's ends u and v are inside: they are
pub stays : (q : Sought) (u v : ℕ) (x y : Bool) → x ≡ (leb q.first u && leb u q.last) → y ≡ (leb q.first v && leb v q.last) → not (x && y) ≡ false →
    (q.first ≤ u) × (u ≤ q.last) × (q.first ≤ v) × (v ≤ q.last)
stays q u v x y o z h =
    let inside = λ (w : ℕ). says_and (says_le q.first w) (says_le w q.last) in
    let b = says_true (says_and (inside u) (inside v)) (ap₂ ◌&&◌ (sym o) (sym z) ∙ not-false (x && y) h) in
    (b.0.0, b.0.1, b.1.0, b.1.1)

module _ (e : Case) (t : Fact) (q : Sought) (k : Seeks e t q) where
  inside_is : (w : ℕ) → (leb q.first w && leb w q.last) ≡ inside (scope_of e t) w
  unfolding inside
  inside_is w = rw (k.first, k.last) refl

  -- x and y tell whether the edge's ends u and v are inside
  module _ (u v : ℕ) (x y : Bool) (o : x ≡ (leb q.first u && leb u q.last)) (z : y ≡ (leb q.first v && leb v q.last)) where
    p : x ≡ inside (scope_of e t) u
    p = o ∙ inside_is u

    r : y ≡ inside (scope_of e t) v
    r = z ∙ inside_is v

    -- they are: so their rows are rows of the table
    module _ (h : not (x && y) ≡ false) where
      from_inside : inside (scope_of e t) u ≡ true
      from_inside = sym p ∙ (both x y (not-false (x && y) h)).0

      to_inside : inside (scope_of e t) v ≡ true
      to_inside = sym r ∙ (both x y (not-false (x && y) h)).1

      pub from_low : (l : List ℕ) → Searched e t l → (from : List ℕ) → from ≡ table_row l (u - q.first) → number_of from ≤ 9
      from_low l s from z =
          subst (λ (r : List ℕ). number_of r ≤ 9) (ap (λ (n : ℕ). table_row l (u - n)) (sym k.first) ∙ sym z) (numbers_low e t l s u from_inside)

    module _ (i : ℕ) (a : u ≡ e.from i) (b : v ≡ e.to i) (l : List ℕ) where
      within_is : (x && y) ≡ within e t i
      unfolding within
      within_is = ap₂ ◌&&◌ (p ∙ ap (inside (scope_of e t)) a) (r ∙ ap (inside (scope_of e t)) b)

      still : changes e t l i ≡ false → (false ≡ changes e t l i) × (l ≡ after_edge e t l i)
      unfolding after_edge
      still c = (sym c, rw c refl)

      pub edge_leaves : not (x && y) ≡ true → (false ≡ changes e t l i) × (l ≡ after_edge e t l i)
      unfolding changes
      edge_leaves h =
          let z : within e t i ≡ false = sym within_is ∙ not-true (x && y) h in
          still (rw z refl)

      -- the rows at the ends, and the new one
      module _ (from to new : List ℕ) (c : ℕ) (rf : from ≡ table_row l (u - q.first)) (rt : to ≡ table_row l (v - q.first)) (rc : c ≡ e.block u) (n : new ≡ stepped e t c from to) where
        new_is : new ≡ stepped_at e t l i
        unfolding stepped_at
        new_is = rw (← a, ← b, ← k.first, ← rf, ← rt, ← rc) n

        to_is : to ≡ node_row e t l (e.to i)
        to_is = rt ∙ ap (table_row l) (ap₂ ◌-◌ b k.first)

        pub edge_keeps : number_of new ≡ number_of to → (false ≡ changes e t l i) × (l ≡ after_edge e t l i)
        unfolding changes
        edge_keeps h =
            let z : number_of (stepped_at e t l i) ≡ number_of (node_row e t l (e.to i)) = sym (ap number_of new_is) ∙ h ∙ ap number_of to_is in
            still (rw (eq-eqb _ _ z) (and_false (within e t i)))

        pub edge_changes : not (x && y) ≡ false → number_of new ≢ number_of to → (true ≡ changes e t l i) × (with_row l (v - q.first) new ≡ after_edge e t l i)
        unfolding changes after_edge
        edge_changes h d =
            let w : within e t i ≡ true = sym within_is ∙ not-false (x && y) h in
            let z : number_of (stepped_at e t l i) ≢ number_of (node_row e t l (e.to i)) = λ s. d (ap number_of new_is ∙ s ∙ sym (ap number_of to_is)) in
            (rw (w, ne_eqb _ _ z) refl, rw (w, ne_eqb _ _ z) (ap₂ (with_row l) (ap₂ ◌-◌ b k.first) new_is))
