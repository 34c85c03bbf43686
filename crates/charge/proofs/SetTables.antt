-- A, M(l) and the set bound, from the tables of the two passes.
use Prim.Native.Nat.{ℕ, suc, ◌+◌, ◌≤◌, ◌<◌}
use native.Mathlib.Omega.{arith}
use mathlib.Core.Path.{◌≡◌, refl, sym, ◌∙◌, ap, ap₂}
use mathlib.Core.Bool.{Bool, true, false, cond, not, ◌&&◌, and-true}
use mathlib.Core.List.{List}
use borrow.Author.Tests.{le-leb, ne_eqb}
use lib.Dec.{eqb, leb}
use lib.ListN.{get_or}
use Rattle.paper.specs.Machines.{none}
use Rattle.paper.specs.Cases.{Fact, Case}
use Rattle.paper.specs.Graphs.{count}
use Rattle.paper.specs.Bounds.{counts, entered, fact_bound, lives, uncovered, sum_of, any_fact, A, up_to, M}
use Rattle.paper.proofs.Meaning.{SoundHead}
use Rattle.charge.specs.Chained.{lowest_limit}
use Rattle.charge.specs.Sizes as Sizes
use Rattle.charge.specs.Tables.{place_of, weight, set_of_fact, set_of_node, FactsAdded, NodesAdded}
use Rattle.charge.proofs.Cover.{lowest_high, lowest_low, covered_is}
use Rattle.charge.proofs.Groups as Groups
use Rattle.charge.proofs.Groups.{beyond, up_more, past_more, past_last, up_none, past_all}
use Rattle.charge.proofs.SmallSums.{sum_same}

module _ (e : Case) (heads : (i : ℕ) → i < e.facts → SoundHead e (e.fact i)) (ways : e.ways ≤ 8) where
  limits : (i : ℕ) → i < e.facts → (1 ≤ (e.fact i).limit) × ((e.fact i).limit < Sizes.limits)
  limits i h = ((heads i h).low, omega (arith, (heads i h).high))

  least : (v : ℕ) → v < e.nodes → (1 ≤ lowest_limit e e.facts v) × (lowest_limit e e.facts v < Sizes.limits)
  least v h = (lowest_low e e.facts v (λ i l. (heads i l).low), omega (arith, lowest_high e e.facts v))

  module _ (p q : ℕ) where
    abbrev facts_to : ℕ → ℕ
    facts_to l = Groups.up_to (set_of_fact e) (λ i. (e.fact i).limit) (λ i. entered e p (e.fact i)) q e.facts l

    abbrev nodes_past : ℕ → ℕ
    nodes_past l = beyond (set_of_node e) (lowest_limit e e.facts) (weight e) q e.nodes l

    -- a fact's block is no none
    fact_lives : (i : ℕ) → i < e.facts → lives e q (e.fact i).block ≡ eqb (set_of_fact e i) q
    unfolding lives
    fact_lives i h = rw (ne_eqb (e.fact i).block none (heads i h).block) refl

    -- the nodes that no fact covers whose limit is at most l
    module _ (test : Fact → Bool) (l : ℕ) (small : l < Sizes.no_limit) (agree : (i : ℕ) → i < e.facts → test (e.fact i) ≡ leb (e.fact i).limit l) where
      pick : (n s c : Bool) (x : ℕ) → cond ((not n && s) && not c) x 0 ≡ cond (s && not c) (cond (not n) x 0) 0
      pick true true true x = refl
      pick true true false x = refl
      pick true false c x = refl
      pick false s c x = refl

      nodes_are : counts e (uncovered e test q) ≡ nodes_past l
      unfolding counts uncovered lives weight beyond
      nodes_are =
          sum_same _ _ e.nodes
          (λ v h.
          ap (λ (b : Bool). cond (lives e q (e.block v) && not b) (count e v) 0) (covered_is e test v l small e.facts agree)
          ∙ pick (eqb (e.block v) none) (eqb (set_of_node e v) q) (leb (lowest_limit e e.facts v) l) (count e v))

    M_is : (l : ℕ) → l < Sizes.no_limit → M e p l q ≡ facts_to l + nodes_past l
    unfolding M sum_of Groups.up_to
    M_is l h =
        ap₂ (λ (x y : ℕ). x + y)
        (sum_same _ _ e.facts
        (λ i k. ap (λ (b : Bool). cond (b && leb (e.fact i).limit l) (entered e p (e.fact i)) 0) (fact_lives i k)))
        (nodes_are (up_to e l) l h (λ i k. refl))

    module _ (charged entries fetched spent : List ℕ) (f : FactsAdded e p e.facts charged entries) (n : NodesAdded e e.nodes fetched spent) (hq : q < Sizes.sets) where
      pub A_is : get_or charged q 0 + get_or spent (place_of q Sizes.no_limit) 0 ≡ A e p q
      unfolding A sum_of
      A_is =
          ap₂ (λ (x y : ℕ). x + y)
          (f.by_set.is q (omega (arith, f.sets_room))
          ∙ sum_same _ _ e.facts
          (λ i k. ap (λ (b : Bool). cond b (fact_bound e p (e.fact i)) 0) (sym (and-true (lives e q (e.fact i).block) ∙ fact_lives i k))))
          (sym (past_last _ _ _ _ _ spent n.by_limit n.limits_room hq least)
          ∙ sym (nodes_are (any_fact e) 8 (omega arith) (λ i k. sym (le-leb (e.fact i).limit 8 (omega (arith, (heads i k).high))))))

      pub M_start : get_or fetched q 0 ≡ M e p 0 q
      M_start =
          n.by_set.is q (omega (arith, n.sets_room))
          ∙ sym (past_all _ _ _ q e.nodes (λ v k. (least v k).0))
          ∙ omega (arith, M_is 0 (omega arith), up_none (set_of_fact e) (λ i. (e.fact i).limit) (λ i. entered e p (e.fact i)) q e.facts (λ i k. (limits i k).0))

      pub M_more : (l : ℕ) → l < 8 → M e p l q + get_or entries (place_of q (suc l)) 0 ≡ M e p (suc l) q + get_or spent (place_of q (suc l)) 0
      M_more l h =
          omega (
            arith,
            M_is l (omega arith),
            M_is (suc l) (omega arith),
            up_more _ _ _ q e.facts entries f.by_limit f.limits_room hq limits l (omega arith),
            past_more _ _ _ q e.nodes spent n.by_limit n.limits_room hq least l (omega arith),
          )
