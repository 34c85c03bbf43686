-- The counts bound the walks that keep the limits.
-- "A loop's header visits are the lesser of W and B times the header visits of the next loop out (1 outside all loops); its entries the lesser of W and that outer number;
-- a node's count is the header visits of its innermost loop."
use Prim.Native.Nat.{ℕ, zero, suc, ◌≤◌, ◌<◌, min}
use native.Mathlib.Omega.{arith}
use native.Mathlib.Decide.{ℕ_discrete}
use native.Mathlib.Nat.{mul-le-mul_left, le_trans}
use mathlib.Core.Path.{◌≡◌, sym, ap, ◌∙◌}
use mathlib.Core.Logic.{◌≢◌, ⊎_elim}
use mathlib.Core.Bool.{Bool, ◌&&◌, cond}
use mathlib.Core.List.{List}
use borrow.Author.Tests.{eqb-true, eqb-false}
use lib.Dec.{leb, ltb, eqb}
use Rattle.paper.specs.declared.Loop.{Loop}
use Rattle.paper.specs.Cases.{Case, unlimited, inside}
use Rattle.paper.specs.Lists.{chain}
use Rattle.paper.specs.Graphs.{around, at_most, header_visits, innermost, count, outer, entries_of}
use Rattle.paper.specs.Walks.{Walk, visits, KeepsLimits}
use Rattle.paper.proofs.Least.{None, Found, look}
use Rattle.paper.proofs.Says.{Says, holds, fails, says_lt, says_le, says_eq, says_and, says_false, says_same, says_is}
use Rattle.paper.proofs.Meaning.{In, SoundGraph}
use Rattle.paper.proofs.GraphLaws.{inside_says, around_says}
use Rattle.paper.proofs.Chain.{chain_same, chain_last}
use Rattle.theory.proofs.Steps.{Over, earlier, ends_in}
use Rattle.theory.proofs.Tally.{stays, arrivals}
use Rattle.theory.proofs.Arrivals.{stays_arrivals, stays_visits, visits_arrivals, arrivals_header, arrivals_once}
use Rattle.theory.proofs.Limits.{visits_stays}

abbrev over : ℕ → Loop → Bool
over t l = ltb l.first t && leb t l.last

over_says : (t : ℕ) (l : Loop) → Says (Over t l) (over t l)
over_says t l = says_and (says_lt l.first t) (says_le t l.last)

-- `f` caps the visits of a loop's header by the stays in it.
module _ (e : Case) (s : SoundGraph e) (w : List ℕ) (walk : Walk e w) (f : ℕ → ℕ → ℕ)
    (top : (j : ℕ) → j < e.loops → (n : ℕ) → stays (e.loop j) w ≤ n → visits (e.loop j).first w ≤ f j n) where
  -- the chain of the loops over a header is, as far as that loop, the chain of the loops over what it holds
  same_over : (t j : ℕ) → j < e.loops → In (e.loop j) t → (i : ℕ) → i < j → over (e.loop j).first (e.loop i) ≡ over t (e.loop i)
  same_over t j m o i h =
      says_same
      (λ (q : Over (e.loop j).first (e.loop i)). omega (arith, q, ends_in e s i j (omega arith) m q))
      (λ (q : Over t (e.loop i)). omega (arith, q, s.rises i j h m))
      (over_says (e.loop j).first (e.loop i)) (over_says t (e.loop i))

  -- a header's visits, where its forward arrivals keep to their chain
  header_le :
      (t j : ℕ) → j < e.loops → In (e.loop j) t → arrivals (e.loop j).first w ≤ chain f (λ i. over (e.loop j).first (e.loop i)) j
      → visits (e.loop j).first w ≤ f j (chain f (λ i. over t (e.loop i)) j)
  header_le t j m o h =
      rw (← chain_same f (λ i. over (e.loop j).first (e.loop i)) (λ i. over t (e.loop i)) j (same_over t j m o))
      (top j m _ (le_trans (stays_arrivals e s w walk j m) h))

  -- the loops over t are below n
  arrivals_le_chain :
      (n t : ℕ) → n ≤ e.loops → ((j : ℕ) → j < e.loops → Over t (e.loop j) → j < n) → arrivals t w ≤ chain f (λ j. over t (e.loop j)) n
  unfolding chain
  arrivals_le_chain zero t h low = arrivals_once e s w walk t (λ j m o. omega (arith, low j m o))
  arrivals_le_chain (suc n) t h low = go (over_says t (e.loop n)) (λ u. arrivals_le_chain n u (omega arith))
    where
      go :
          {b : Bool} → Says (Over t (e.loop n)) b
          → ((u : ℕ) → ((j : ℕ) → j < e.loops → Over u (e.loop j) → j < n) → arrivals u w ≤ chain f (λ j. over u (e.loop j)) n)
          → arrivals t w ≤ cond b (f n (chain f (λ j. over t (e.loop j)) n)) (chain f (λ j. over t (e.loop j)) n)
      go (holds o) ih =
          le_trans (arrivals_header e s w walk t n h o (λ j m q. omega (arith, low j m q)))
          (header_le t n h (omega arith) (ih (e.loop n).first (λ j m q. earlier e s j n m h q.0)))
      go (fails q) ih = ih t λ j m o. elim (ℕ_discrete j n) [ yes p ↦ absurd (q (rw (← p) o)) | no p ↦ omega (arith, low j m o) ]

  visits_le_chain : (v : ℕ) → visits v w ≤ chain f (λ j. inside (e.loop j) v) e.loops
  visits_le_chain v = ⊎_elim plain header (look (λ j. eqb (e.loop j).first v) e.loops)
    where
      same :
          (n : ℕ) → ((j : ℕ) → j < n → (e.loop j).first ≢ v) → chain f (λ j. over v (e.loop j)) n ≡ chain f (λ j. inside (e.loop j) v) n
      same n ne =
          chain_same f (λ j. over v (e.loop j)) (λ j. inside (e.loop j) v) n λ j q.
          let z = ne j q in
          says_same (λ (o : Over v (e.loop j)). omega (arith, o)) (λ (i : In (e.loop j) v). omega (arith, i)) (over_says v (e.loop j)) (inside_says (e.loop j) v)

      plain : None (λ j. eqb (e.loop j).first v) e.loops → visits v w ≤ chain f (λ j. inside (e.loop j) v) e.loops
      plain no_Header =
          rw (← same e.loops (λ j q. eqb-false _ _ (no_Header j q)))
          (le_trans (visits_arrivals e s w walk v (λ j m p. eqb-false _ _ (no_Header j m) (sym p)))
          (arrivals_le_chain e.loops v (omega arith) (λ j m o. m)))

      header : Found (λ j. eqb (e.loop j).first v) e.loops → visits v w ≤ chain f (λ j. inside (e.loop j) v) e.loops
      header r = at r.at r.below (eqb-true _ _ r.holds)
        where
          at : (j : ℕ) → j < e.loops → (e.loop j).first ≡ v → visits v w ≤ chain f (λ j. inside (e.loop j) v) e.loops
          at j m p =
              omega (
                arith,
                ap (λ (u : ℕ). visits u w) p,
                header_le v j m (omega (arith, s.fits j m)) (arrivals_le_chain j (e.loop j).first (omega arith) (λ i n o. earlier e s i j n m o.0)),
                last_taken,
              )
            where
              test : ℕ → Bool
              test i = inside (e.loop i) v

              last_taken : chain f test e.loops ≡ f j (chain f (λ i. over v (e.loop i)) j)
              last_taken =
                  chain_last f test e.loops j m (says_is (inside_says (e.loop j) v) (omega (arith, s.fits j m)))
                  (λ i a b. (says_false (inside_says (e.loop i) v)).1 (λ o. omega (arith, s.rises j i a b, o)))
                  ∙ ap (f j) (sym (same j (λ i q x. omega (arith, s.rises i j q m))))

  stays_le_chain : (j : ℕ) → j < e.loops → stays (e.loop j) w ≤ chain f (λ i. around (e.loop j) (e.loop i)) e.loops
  stays_le_chain j m =
      rw (← chain_same f (λ i. over (e.loop j).first (e.loop i)) (λ i. around (e.loop j) (e.loop i)) e.loops λ i n.
      says_same
      (λ (o : Over (e.loop j).first (e.loop i)). (o.0, ends_in e s i j n m o))
      (λ (o : ((e.loop i).first < (e.loop j).first) × ((e.loop j).last ≤ (e.loop i).last)). omega (arith, o, s.fits j m))
      (over_says (e.loop j).first (e.loop i)) (around_says (e.loop j) (e.loop i)))
      (le_trans (stays_arrivals e s w walk j m) (arrivals_le_chain e.loops (e.loop j).first (omega arith) (λ i n o. n)))

-- what is below n, and below W where there is one
at_most_lem : (W x n : ℕ) → x ≤ n → (W ≢ unlimited → x ≤ W) → x ≤ at_most W n
unfolding at_most
at_most_lem W x n h below = go (says_eq W unlimited)
  where
    go : {b : Bool} → Says (W ≡ unlimited) b → x ≤ cond b n (min W n)
    go (holds p) = h
    go (fails p) = omega (arith, below p)

module _ (e : Case) (s : SoundGraph e) (w : List ℕ) (walk : Walk e w) (kept : KeepsLimits e w) where
  -- the limits cap a header's visits by the stays
  by_stays : (j : ℕ) → j < e.loops → (n : ℕ) → stays (e.loop j) w ≤ n → visits (e.loop j).first w ≤ header_visits e j n
  unfolding header_visits
  by_stays j m n h =
      at_most_lem (e.loop j).visits _ _
      (le_trans (visits_stays (e.loop j) (s.fits j m).0 w (kept.in_stay j m)) (mul-le-mul_left (e.loop j).bound h))
      (kept.in_walk j m)

  pub visits_le_count : (v : ℕ) → visits v w ≤ count e v
  unfolding count innermost
  visits_le_count v = visits_le_chain e s w walk (header_visits e) by_stays v

  pub stays_le_entries : (j : ℕ) → j < e.loops → stays (e.loop j) w ≤ entries_of e (e.loop j)
  unfolding entries_of outer innermost
  stays_le_entries j m =
      at_most_lem (e.loop j).visits _ _
      (stays_le_chain e s w walk (header_visits e) by_stays j m)
      (λ limited. le_trans (stays_visits e s w walk j m) (kept.in_walk j m limited))
