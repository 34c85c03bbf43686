-- Where no loop has a W the counts and entries are the products of document 01. E is at most N there, so the lesser is E, and all numbers are document 01's: a file of version 1 keeps its numbers.
use Rattle.std.specs.Prelude.{Ok}
use Prim.Native.Nat.{ℕ, zero, suc, ◌-◌, ◌*◌, ◌≤◌, ◌<◌}
use native.Mathlib.Omega.{arith}
use native.Mathlib.Decide.{ℕ_discrete, dec_lt}
use native.Mathlib.Nat.{mul_comm, mul-one, mul-pos, mul-le-mul}
use mathlib.Core.Path.{◌≡◌, refl, sym, ◌∙◌, ap}
use mathlib.Core.Logic.{◌≢◌}
use mathlib.Core.Bool.{Bool, true, false, cond, ◌&&◌}
use mathlib.Core.List.{List}
use borrow.Author.Tests.{eq-eqb, ne_eqb, le-ltb}
use lib.Dec.{ltb}
use Rattle.paper.specs.declared.Loop.{Loop}
use Rattle.paper.specs.Lists.{chain, product_to, lowest_to}
use Rattle.paper.specs.Machines.{none}
use Rattle.paper.specs.Cases.{Fact, Case, unlimited, inside, range_of, scope_of}
use Rattle.paper.specs.Graphs.{around, at_most, header_visits, innermost, count, outer, entries_of, entries}
use Rattle.paper.specs.Bounds.{floor_of, list_length, sets_from, facts_from, covers, counts, entered, fact_bound, lives, uncovered, sum_of, any_fact, A, up_to, M, floor_at, set_bound, total_bound, number_at, numbers}
use Rattle.paper.specs.Products.{product_of, product_count, product_entries, product_counts, product_bound, product_sum, product_floor, product_set, product_number, product_numbers}
use Rattle.paper.specs.Records.{without_w}
use Rattle.paper.specs.Files.{trailer_of, loop_at, case_of, read_case}
use Rattle.paper.specs.Verdicts.{verdict}
use Rattle.paper.proofs.Says.{Says, holds, fails, says_eq, says_is}
use Rattle.paper.proofs.Meaning.{In, SoundFact, Sound}
use Rattle.paper.proofs.GraphLaws.{inside_says, around_says}
use Rattle.paper.proofs.Nests.{Around}
use Rattle.paper.proofs.LoopSizes.{visits_without}
use Rattle.paper.proofs.TableLaws.{same_table}
use Rattle.paper.proofs.TestLaws.{covers_says}
use Rattle.paper.proofs.VerdictLaws.{file_sound, enough}
use Rattle.theory.proofs.SumLaws.{sum_same, sum_at}

product_pos : (g : ℕ → ℕ) (n : ℕ) → ((j : ℕ) → j < n → 1 ≤ g j) → 1 ≤ product_to g n
unfolding product_to
product_pos g zero h = omega arith
product_pos g (suc n) h = mul-pos (product_pos g n (λ j l. h j (omega arith))) (h n (omega arith))

product_le : (g h : ℕ → ℕ) (n : ℕ) → ((j : ℕ) → j < n → g j ≤ h j) → product_to g n ≤ product_to h n
unfolding product_to
product_le g h zero le = omega arith
product_le g h (suc n) le = mul-le-mul (product_le g h n (λ j l. le j (omega arith))) (le n (omega arith))

lowest_same : (g h : ℕ → ℕ) (a : ℕ) → ((j : ℕ) → g j ≡ h j) → (n : ℕ) → lowest_to g a n ≡ lowest_to h a n
unfolding lowest_to
lowest_same g h a same zero = refl
lowest_same g h a same (suc n) = rw (lowest_same g h a same n, same n) refl

below_same : (i n x y : ℕ) → (i < n → x ≡ y) → cond (ltb i n) x 0 ≡ cond (ltb i n) y 0
below_same i n x y same =
    elim (dec_lt i n) [
      | yes l ↦ ap (λ (z : ℕ). cond (ltb i n) z 0) (same l)
      | no l ↦ rw (le-ltb i n (omega arith)) refl
    ]

at_most_all : (W n : ℕ) → W ≡ unlimited → at_most W n ≡ n
unfolding at_most
at_most_all W n h = rw (eq-eqb W unlimited h) refl

module _ (e : Case) (without : (j : ℕ) → j < e.loops → (e.loop j).visits ≡ unlimited) where
  chain_product : (test : ℕ → Bool) (n : ℕ) → n ≤ e.loops → chain (header_visits e) test n ≡ product_to (λ j. cond (test j) (e.loop j).bound 1) n
  unfolding chain product_to header_visits
  chain_product test zero h = refl
  chain_product test (suc n) h = rw (chain_product test n (omega arith)) (go (test n) (product_to (λ j. cond (test j) (e.loop j).bound 1) n))
    where
      go : (b : Bool) (p : ℕ) → cond b (header_visits e n p) p ≡ p * cond b (e.loop n).bound 1
      go true p = at_most_all (e.loop n).visits ((e.loop n).bound * p) (without n h) ∙ mul_comm (e.loop n).bound p
      go false p = sym (mul-one p)

  innermost_product : (test : ℕ → Bool) → innermost e test ≡ product_of e test
  unfolding innermost
  innermost_product test = chain_product test e.loops (omega arith)

  pub count_product : (v : ℕ) → count e v ≡ product_count e v
  unfolding count product_count
  count_product v = innermost_product (λ j. inside (e.loop j) v)

  loop_product : (w : ℕ) → w < e.loops → entries_of e (e.loop w) ≡ product_of e (λ j. around (e.loop w) (e.loop j))
  unfolding entries_of outer
  loop_product w m = at_most_all (e.loop w).visits _ (without w m) ∙ innermost_product (λ j. around (e.loop w) (e.loop j))

  pub entries_product : (t : Fact) → (t.scope ≢ none → t.scope < e.loops) → entries e t ≡ product_entries e t
  unfolding entries product_entries
  entries_product t h =
      elim (ℕ_discrete t.scope none) [
        | yes p ↦ rw (eq-eqb t.scope none p) refl
        | no n ↦ rw (ne_eqb t.scope none n) (loop_product t.scope (h n))
      ]

  counts_product : (test : ℕ → Bool) → counts e test ≡ product_counts e test
  unfolding counts product_counts
  counts_product test = sum_same _ _ e.nodes (λ v l. ap (λ (x : ℕ). cond (test v) x 0) (count_product v))

  module _ (s : Sound e) where
    -- a node's count is at least the entries of any loop that has it
    entries_le_count : (w v : ℕ) → w < e.loops → In (e.loop w) v → entries_of e (e.loop w) ≤ count e v
    unfolding product_count
    entries_le_count w v m o =
        rw (loop_product w m, count_product v)
        (product_le _ _ e.loops (λ j l. fewer (e.loop j) (around_says (e.loop w) (e.loop j)) (inside_says (e.loop j) v) (s.graph.fits j l).2))
      where
        fewer : (l : Loop) {x y : Bool} → Says (Around (e.loop w) l) x → Says (In l v) y → 1 ≤ l.bound → cond x l.bound 1 ≤ cond y l.bound 1
        fewer l (holds p) (holds q) low = omega arith
        fewer l (holds p) (fails q) low = absurd (q (omega arith))
        fewer l (fails p) (holds q) low = low
        fewer l (fails p) (fails q) low = omega arith

    count_pos : (v : ℕ) → 1 ≤ count e v
    unfolding product_count
    count_pos v = rw (count_product v) (product_pos _ e.loops (λ j l. low (inside (e.loop j) v) (s.graph.fits j l).2))
      where
        low : (t : Bool) {b : ℕ} → 1 ≤ b → 1 ≤ cond t b 1
        low true h = h
        low false h = omega arith

    module _ (t : Fact) (h : SoundFact e t) where
      -- a node of the fact's scope
      scope_count : (v : ℕ) → In (scope_of e t) v → (entries e t ≤ count e v) × (v < e.nodes)
      unfolding range_of entries
      scope_count v = go (says_eq t.scope none)
        where
          go :
              {b : Bool} → Says (t.scope ≡ none) b
              → In (cond b (record { first = 0; last = e.nodes - 1; bound = 1; visits = unlimited }) (e.loop t.scope)) v
              → (cond b 1 (entries_of e (e.loop t.scope)) ≤ count e v) × (v < e.nodes)
          go (holds p) o = (count_pos v, omega (arith, s.nodes))
          go (fails n) o = let m = h.head.scope n in (entries_le_count t.scope v m o, omega (arith, s.graph.fits t.scope m))

      -- some node of the scope fetches b (rule 14), so the lesser of E and N is E
      entered_entries : entered e 0 t ≡ entries e t
      unfolding entered counts
      entered_entries =
          let (v, o, b) = h.fetched in
          let c = scope_count v o in
          omega (
            arith,
            c.0,
            sum_at (λ u. cond (covers e t u) (count e u) 0) e.nodes v c.1,
            ap (λ (y : Bool). cond y (count e v) 0) (says_is (covers_says e t v) (o, b)),
          )

      entered_product : entered e 0 t ≡ product_entries e t
      entered_product = entered_entries ∙ entries_product t h.head.scope

      bound_product : fact_bound e 0 t ≡ product_bound e t
      unfolding fact_bound product_bound
      bound_product = rw (entered_product, counts_product (covers e t)) refl

    -- a sum over the facts of a set and its uncovered nodes
    sum_product :
        (test : Fact → Bool) (each each' : Fact → ℕ) → ((i : ℕ) → i < e.facts → each (e.fact i) ≡ each' (e.fact i)) → (q : ℕ)
        → sum_of e test each q ≡ product_sum e test each' q
    unfolding sum_of product_sum
    sum_product test each each' same q =
        omega (
          arith,
          counts_product (uncovered e test q),
          sum_same _ _ e.facts (λ i m. ap (λ (x : ℕ). cond (lives e q (e.fact i).block && test (e.fact i)) x 0) (same i m)),
        )

    A_product : (q : ℕ) → A e 0 q ≡ product_sum e (any_fact e) (product_bound e) q
    unfolding A
    A_product q = sum_product (any_fact e) (fact_bound e 0) (product_bound e) (λ i m. bound_product (e.fact i) (s.facts i m)) q

    floor_product : (q j : ℕ) → floor_at e 0 q j ≡ product_floor e q j
    unfolding floor_at product_floor M
    floor_product q j =
        ap (floor_of e.ways (suc j)) (sum_product (up_to e (suc j)) (entered e 0) (product_entries e) (λ i m. entered_product (e.fact i) (s.facts i m)) q)

    set_product : (q : ℕ) → set_bound e 0 q ≡ product_set e q
    unfolding set_bound product_set
    set_product q = rw (A_product q, lowest_same (floor_at e 0 q) (product_floor e q) (product_sum e (any_fact e) (product_bound e) q) (floor_product q) e.ways) refl

    number_product : (i : ℕ) → number_at e 0 i ≡ product_number e i
    unfolding number_at product_number total_bound
    number_product i =
        rw (
          sum_same (set_bound e 0) (product_set e) e.sets (λ q l. set_product q),
          set_product (i - sets_from),
          below_same (i - facts_from) e.facts _ _ (λ l. bound_product (e.fact (i - facts_from)) (s.facts (i - facts_from) l)),
        )
        refl

    pub numbers_product : numbers e 0 ≡ product_numbers e
    numbers_product = same_table _ _ list_length (λ i l. number_product i)

-- "Version 1 is read as without W"
pub version_one : (f : List ℕ) → (trailer_of f).version ≡ without_w → (j : ℕ) → ((read_case f).loop j).visits ≡ unlimited
unfolding case_of loop_at
version_one f h j = visits_without (trailer_of f).version _ h

-- "and gives its old numbers"
pub old_numbers : (f : List ℕ) (room : ℕ) → (trailer_of f).version ≡ without_w → verdict f room ≡ Ok tt → numbers (read_case f) 0 ≡ product_numbers (read_case f)
old_numbers f room v h = numbers_product (read_case f) (λ j l. version_one f v j) (file_sound f (enough f room h)).1
