-- The turn of a fact of the lists: what it tells, by its answer, and its chain by the outcomes of the tests.
use Rattle.std.specs.Prelude.{Result, Ok, Err, Option}
use Prim.Native.Nat.{ℕ, zero, suc, ◌+◌, ◌-◌, ◌*◌, ◌%◌, ◌≤◌, ◌<◌}
use native.Mathlib.Omega.{arith}
use native.Mathlib.Decide.{ℕ_discrete}
use mathlib.Core.Path.{◌≡◌, refl, sym, ◌∙◌, ap, subst}
use mathlib.Core.Logic.{◌≢◌}
use mathlib.Core.Bool.{Bool, true, false, not}
use mathlib.Core.List.{List, []}
use lib.Dec.{ltb}
use lib.ListN.{length, get_or}
use borrow.Author.Tests.{lt-ltb, le-ltb, eq-eqb, ne_eqb}
use Rattle.paper.specs.declared.Trailer.{Trailer}
use Rattle.paper.specs.declared.Previous.{Previous}
use Rattle.paper.specs.declared.Loop.{Loop}
use Rattle.paper.specs.declared.Refusal.{Refusal}
use Rattle.paper.specs.Answers.{Verdict, refuse_at}
use Rattle.paper.specs.Lists.{least, some, sum_to}
use Rattle.paper.specs.Machines.{none}
use Rattle.paper.specs.Cases.{size, scope_of, range_of, same_set}
use Rattle.paper.specs.Facts.{wrong_head, wrong_order, bad_head, bad_order, bad_slot, bad_row, bad_row_at, least_node}
use Rattle.paper.specs.Rules.{rule_by, rule}
use Rattle.paper.specs.Verdicts.{head_rule, order_rule, row_rules}
use Rattle.paper.specs.Writing.{loop_in, rows_named, content_rules}
use Rattle.paper.proofs.Least.{least_same}
use Rattle.paper.proofs.FactLaws.{head_sound}
use Rattle.evidence.specs.declared.Head.{Head}
use Rattle.evidence.specs.Stands.{nodes_of}
use Rattle.facts.specs.declared.Kept.{Kept}
use Rattle.lists.specs.Listed.{content, fact_case, row_case, row_at, fact_of, loop_at, Facts}
use Rattle.lists.specs.Turns.{before, fact, miscounted, body, turn, Stands, Next, Told}

module _ (t : Trailer) (loops heads rows : List ℕ) (i : ℕ) (chain : Verdict → Verdict) where
  pub told_refused : (r : Refusal) → Err r ≡ chain (Ok tt) → Told t loops heads rows i chain (Err r)
  told_refused r e = record { verdict = e; next = λ k q. let z : ◌≡◌ {A = ℕ} 0 1 = cc in absurd (omega arith) }

  pub told_kept : (k : Kept) → (Ok tt) ≡ chain (Ok tt) → Next t loops heads rows i k → Told t loops heads rows i chain (Ok k)
  told_kept k e n = record { verdict = e; next = λ j q. let z : k ≡ j = cc in subst (Next t loops heads rows i) z n }

  -- a chain that goes on where the other begins
  pub told_on : (other : Verdict → Verdict) (r : Result Kept Refusal) → other (Ok tt) ≡ chain (Ok tt) → Told t loops heads rows i other r → Told t loops heads rows i chain r
  told_on other r e w = record { verdict = w.verdict ∙ e; next = w.next }

pub sum_below : (g : ℕ → ℕ) (i n : ℕ) → i < n → sum_to g i + g i ≤ sum_to g n
unfolding sum_to
sum_below g i zero h = absurd (omega arith)
sum_below g i (suc n) h =
    elim (ℕ_discrete i n) [
      | yes e ↦ rw e (omega arith)
      | no e ↦ omega (arith, sum_below g i n (omega arith))
    ]

module _ (t : Trailer) (loops heads rows : List ℕ) (i : ℕ) (h : Head) (s : Stands t loops heads rows i h) where
  scope_size : nodes_of h ≡ size (scope_of (fact_case t loops heads rows) (fact t loops heads rows i))
  scope_size = ap (λ (f : ℕ). suc h.last - f) s.first ∙ ap (λ (l : ℕ). suc l - (scope_of (fact_case t loops heads rows) (fact t loops heads rows i)).first) s.last

  -- the row that is judged is the fact's
  same_row : (j : ℕ) → bad_row_at (row_case t) (fact_of rows h) j ≡ bad_row_at (fact_case t loops heads rows) (fact t loops heads rows i) j
  unfolding bad_row_at bad_row bad_slot same_set
  same_row j =
      ap (λ (b : ℕ). bad_row (row_case t) (record { scope = 0; block = b; limit = h.limit; row = λ k. row_at rows (8 * (h.place + k)) }) (row_at rows (8 * (h.place + j)))) s.block
      ∙ ap (λ (l : ℕ). bad_row (row_case t) (record { scope = 0; block = (fact t loops heads rows i).block; limit = l; row = λ k. row_at rows (8 * (h.place + k)) }) (row_at rows (8 * (h.place + j)))) s.limit
      ∙ ap
      (λ (p : ℕ). bad_row (row_case t) (record { scope = 0; block = (fact t loops heads rows i).block; limit = (fact t loops heads rows i).limit; row = λ k. row_at rows (8 * (p + k)) }) (row_at rows (8 * (p + j))))
      s.place

  -- from the number n of rows that the head names and the least row j that is not sound
  module _ (n : ℕ) (q : n ≡ get_or heads (4 * i + 3) 0) where
    pub counted_wrong : n + h.first ≢ h.last + 1 → true ≡ miscounted t loops heads rows i
    counted_wrong w =
        let z : get_or heads (4 * i + 3) 0 ≢ size (scope_of (fact_case t loops heads rows) (fact t loops heads rows i)) = λ k. w (omega (arith, s.rises, q ∙ k ∙ sym scope_size)) in
        sym (ap not (ne_eqb _ _ z))

    pub counted_right : n + h.first ≡ h.last + 1 → false ≡ miscounted t loops heads rows i
    counted_right w =
        let z : n ≡ nodes_of h = omega (arith, s.rises) in
        sym (ap not (eq-eqb _ _ (sym q ∙ z ∙ scope_size)))

    pub body_15 : n + h.first ≢ h.last + 1 → (r : Refusal) → r ≡ refuse_at 15 i 0 → Err r ≡ body t loops heads rows i (Ok tt)
    body_15 w r k = ap Err k ∙ ap (λ (b : Bool). rule 15 i b (row_rules (fact_case t loops heads rows) i (fact t loops heads rows i) (Ok tt))) (counted_wrong w)

    module _ (w : n + h.first ≡ h.last + 1) (j : ℕ) (x : j ≡ least (bad_row_at (row_case t) (fact_of rows h)) n) where
      all_nodes : n ≡ size (scope_of (fact_case t loops heads rows) (fact t loops heads rows i))
      all_nodes = let z : n ≡ nodes_of h = omega (arith, s.rises) in z ∙ scope_size

      least_is : j ≡ least (bad_row_at (fact_case t loops heads rows) (fact t loops heads rows i)) n
      least_is = x ∙ least_same _ _ n (λ k l. same_row k)

      body_is : body t loops heads rows i (Ok tt) ≡ rule_by (refuse_at 16 i (h.first + j)) (ltb j n) (Ok tt)
      unfolding row_rules some least_node
      body_is = rw (← counted_right w, ← all_nodes, ← least_is, ← s.first) refl

      pub body_16 : j < n → (r : Refusal) → r ≡ refuse_at 16 i (h.first + j) → Err r ≡ body t loops heads rows i (Ok tt)
      body_16 l r k = ap Err k ∙ sym (body_is ∙ rw (lt-ltb j n l) refl)

      pub body_kept : n ≤ j → (Ok tt) ≡ body t loops heads rows i (Ok tt)
      body_kept l = sym (body_is ∙ rw (le-ltb j n l) refl)

    -- its rows are among the rows
    pub rows_there : Facts t loops heads rows → i < t.facts → 8 * (h.place + n) ≤ length rows
    unfolding rows_named
    rows_there k l = omega (arith, q, s.place, k.rows_whole, sum_below (rows_named (content t [] [] [] heads rows)) i t.facts l)

    -- what the fact is to the next one
    pub next_of : Next t loops heads rows i (record { previous = record { block = h.block; last = h.last }; end = h.place + n })
    unfolding rows_named sum_to
    next_of = record { previous_is = rw (s.block, s.last) refl; end_is = ap (λ (p : ℕ). p + n) s.place ∙ ap (λ (m : ℕ). before t loops heads rows i + m) q }

-- what is read of fact i's head: its names and, where they pass 12, its scope
module _ (t : Trailer) (loops heads rows : List ℕ) (i : ℕ) where
  pub head_is : wrong_head t.loops t.ways (get_or heads (4 * i) 0) (get_or heads (4 * i + 1) 0) (get_or heads (4 * i + 2) 0) ≡ bad_head (fact_case t loops heads rows) (fact t loops heads rows i)
  unfolding bad_head
  head_is = refl

  scope_is : (r : Loop) → r ≡ range_of t.nodes (loop_at t.version loops) (get_or heads (4 * i) 0) → r ≡ scope_of (fact_case t loops heads rows) (fact t loops heads rows i)
  unfolding loop_in
  scope_is r a = a

  pub order_is :
      (r : Loop) → r ≡ range_of t.nodes (loop_at t.version loops) (get_or heads (4 * i) 0) → (previous : Option Previous) →
      wrong_order previous (get_or heads (4 * i + 1) 0) r.first ≡ bad_order (fact_case t loops heads rows) previous (fact t loops heads rows i)
  unfolding bad_order
  order_is r a previous = ap (λ (s : Loop). wrong_order previous (get_or heads (4 * i + 1) 0) s.first) (scope_is r a)

  module _ (e : bad_head (fact_case t loops heads rows) (fact t loops heads rows i) ≡ false) where
    -- a fact that passes 12 names a loop or the whole graph
    pub named : get_or heads (4 * i) 0 ≢ none → get_or heads (4 * i) 0 < t.loops
    named q = (head_sound (fact_case t loops heads rows) (fact t loops heads rows i) e).scope q

    fits_at : Facts t loops heads rows → let r = range_of t.nodes (loop_at t.version loops) (get_or heads (4 * i) 0) in (r.first ≤ r.last) × (r.last < t.nodes)
    unfolding range_of
    fits_at known =
        elim (ℕ_discrete (get_or heads (4 * i) 0) none) [
          | yes k ↦ rw (eq-eqb (get_or heads (4 * i) 0) none k) (omega (arith, known.nodes_low))
          | no k ↦ rw (ne_eqb (get_or heads (4 * i) 0) none k) (known.fits _ (named k))
        ]

    pub stands :
        Facts t loops heads rows → (r : Loop) → r ≡ range_of t.nodes (loop_at t.version loops) (get_or heads (4 * i) 0) → (p home : ℕ) → p ≡ before t loops heads rows i →
        home ≡ get_or heads (4 * i + 1) 0 % t.sets →
        Stands t loops heads rows i
        (record { place = p; first = r.first; last = r.last; block = get_or heads (4 * i + 1) 0; limit = get_or heads (4 * i + 2) 0; home = home })
    stands known r a p home b o =
        let k = subst (λ (s : Loop). (s.first ≤ s.last) × (s.last < t.nodes)) (sym a) (fits_at known) in
        record {
          place = b;
          first = ap (λ (s : Loop). s.first) (scope_is r a);
          last = ap (λ (s : Loop). s.last) (scope_is r a);
          block = refl;
          limit = refl;
          home = o;
          rises = k.0;
          within = k.1;
        }

  -- the turn's chain, by the outcomes a and b of its first tests
  pub turn_is :
      (previous : Option Previous) (a b : Bool) (v : Verdict) → a ≡ bad_head (fact_case t loops heads rows) (fact t loops heads rows i) →
      b ≡ bad_order (fact_case t loops heads rows) previous (fact t loops heads rows i) → v ≡ body t loops heads rows i (Ok tt) →
      rule 12 i a (rule 13 i b v) ≡ turn t loops heads rows i previous (Ok tt)
  unfolding content_rules head_rule order_rule
  turn_is previous a b v x y z = cc
