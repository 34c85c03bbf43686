-- Header visits in the paper's words: "the header visits of the next loop out (1 outside all loops)", and "a node's count is the header visits of its innermost loop".
-- Every loop's header visits are so the count of its header, and rule 10 tests them all.
use Prim.Native.Nat.{ℕ, zero, suc, ◌+◌, ◌-◌, ◌≤◌, ◌<◌, min}
use native.Mathlib.Omega.{arith}
use native.Mathlib.Decide.{ℕ_discrete}
use native.Mathlib.Nat.{mul-pos}
use mathlib.Core.Path.{◌≡◌, sym, ◌∙◌, ap}
use mathlib.Core.Bool.{Bool, true, false, cond}
use lib.Dec.{eqb}
use Rattle.paper.specs.declared.Loop.{Loop}
use Rattle.paper.specs.Lists.{chain}
use Rattle.paper.specs.Cases.{Case, unlimited, inside}
use Rattle.paper.specs.Graphs.{around, at_most, header_visits, innermost, count, outer}
use Rattle.paper.proofs.Says.{says_is, says_true, says_false, says_same}
use Rattle.paper.proofs.Meaning.{In}
use Rattle.paper.proofs.GraphLaws.{inside_says, around_says}
use Rattle.paper.proofs.Chain.{chain_same, chain_end, chain_last, chain_none, chain_low}

-- loop o is strictly around loop l
abbrev pub Around : Loop → Loop → Type 0
Around l o = (o.first < l.first) × (l.last ≤ o.last)

-- where every limit is above 0, so is every number of visits
module _ (e : Case) (bounds : (j : ℕ) → j < e.loops → 1 ≤ (e.loop j).bound) (limits : (j : ℕ) → j < e.loops → 1 ≤ (e.loop j).visits) where
  header_pos : (j : ℕ) → j < e.loops → (n : ℕ) → 1 ≤ n → 1 ≤ header_visits e j n
  unfolding header_visits at_most
  header_pos j h n low = go (eqb (e.loop j).visits unlimited) (mul-pos (bounds j h) low)
    where
      go : (b : Bool) {m : ℕ} → 1 ≤ m → 1 ≤ cond b m (min (e.loop j).visits m)
      go true q = q
      go false q = omega (arith, limits j h)

  pub visits_pos : (test : ℕ → Bool) (n : ℕ) → n ≤ e.loops → 1 ≤ chain (header_visits e) test n
  unfolding chain
  visits_pos test zero h = omega arith
  visits_pos test (suc n) h = go (test n) (visits_pos test n (omega arith))
    where
      go : (b : Bool) {k : ℕ} → 1 ≤ k → 1 ≤ cond b (header_visits e n k) k
      go true {k} q = header_pos n h k q
      go false q = q

-- what rule 7 gives
module _ (e : Case)
    (fits : (j : ℕ) → j < e.loops → (e.loop j).first ≤ (e.loop j).last)
    (rises : (i j : ℕ) → i < j → j < e.loops → (e.loop i).first < (e.loop j).first)
    (nested : (i j : ℕ) → i < j → j < e.loops → (e.loop j).first ≤ (e.loop i).last → (e.loop j).last ≤ (e.loop i).last) where
  -- the loops around loop j come before it
  before_outer :
      (j : ℕ) → j < e.loops → (test : ℕ → Bool) → ((i : ℕ) → i < j → test i ≡ around (e.loop j) (e.loop i))
      → chain (header_visits e) test j ≡ outer e (e.loop j)
  unfolding outer innermost
  before_outer j m test same =
      let all : e.loops ≡ j + (e.loops - j) = omega arith in
      chain_same (header_visits e) test (λ i. around (e.loop j) (e.loop i)) j same
      ∙ sym
      (ap (chain (header_visits e) (λ i. around (e.loop j) (e.loop i))) all
      ∙ chain_end (header_visits e) (λ i. around (e.loop j) (e.loop i)) j (e.loops - j) (λ i a b. not_around i a (omega arith)))
    where
      not_around : (i : ℕ) → j ≤ i → i < e.loops → around (e.loop j) (e.loop i) ≡ false
      not_around i a b =
          (says_false (around_says (e.loop j) (e.loop i))).1 λ o.
          elim (ℕ_discrete j i) [
            | yes p ↦ omega (arith, o, ap (λ (x : ℕ). (e.loop x).first) p)
            | no p ↦ omega (arith, o, rises j i (omega arith) b)
          ]

  -- of loop j's nodes, those loops before it that have one are around it
  same_outer : (v j : ℕ) → j < e.loops → In (e.loop j) v → (i : ℕ) → i < j → inside (e.loop i) v ≡ around (e.loop j) (e.loop i)
  same_outer v j m o i l =
      says_same
      (λ (h : In (e.loop i) v). (rises i j l m, nested i j l m (omega arith)))
      (λ (h : Around (e.loop j) (e.loop i)). omega arith)
      (inside_says (e.loop i) v) (around_says (e.loop j) (e.loop i))

  -- "a node's count is the header visits of its innermost loop"
  pub count_innermost :
      (v j : ℕ) → j < e.loops → In (e.loop j) v → ((i : ℕ) → j < i → i < e.loops → ¬ In (e.loop i) v)
      → count e v ≡ header_visits e j (outer e (e.loop j))
  unfolding count innermost
  count_innermost v j m o inner =
      chain_last (header_visits e) (λ i. inside (e.loop i) v) e.loops j m (says_is (inside_says (e.loop j) v) o)
      (λ i a b. (says_false (inside_says (e.loop i) v)).1 (inner i a b))
      ∙ ap (header_visits e j) (before_outer j m (λ i. inside (e.loop i) v) (same_outer v j m o))

  pub count_alone : (v : ℕ) → ((j : ℕ) → j < e.loops → ¬ In (e.loop j) v) → count e v ≡ 1
  unfolding count innermost
  count_alone v alone = chain_none (header_visits e) (λ j. inside (e.loop j) v) e.loops (λ j m. (says_false (inside_says (e.loop j) v)).1 (alone j m))

  -- Headers differ, so a header's innermost loop is its own.
  pub header_count : (j : ℕ) → j < e.loops → count e (e.loop j).first ≡ header_visits e j (outer e (e.loop j))
  header_count j m = count_innermost (e.loop j).first j m (omega (arith, fits j m)) (λ i a b o. omega (arith, rises j i a b, o))

  -- "the header visits of the next loop out": i is the last loop around loop j
  pub outer_next :
      (i j : ℕ) → i < e.loops → j < e.loops → Around (e.loop j) (e.loop i) → ((x : ℕ) → i < x → x < e.loops → ¬ Around (e.loop j) (e.loop x))
      → outer e (e.loop j) ≡ count e (e.loop i).first
  unfolding outer innermost
  outer_next i j n m o next =
      chain_last (header_visits e) (λ x. around (e.loop j) (e.loop x)) e.loops i n (says_is (around_says (e.loop j) (e.loop i)) o)
      (λ x a b. (says_false (around_says (e.loop j) (e.loop x))).1 (next x a b))
      ∙ ap (header_visits e i) (before_outer i n (λ x. around (e.loop j) (e.loop x)) same)
      ∙ sym (header_count i n)
    where
      same : (x : ℕ) → x < i → around (e.loop j) (e.loop x) ≡ around (e.loop i) (e.loop x)
      same x l =
          says_same
          (λ (h : Around (e.loop j) (e.loop x)). (rises x i l n, nested x i l n (omega (arith, fits j m))))
          (λ (h : Around (e.loop i) (e.loop x)). omega arith)
          (around_says (e.loop j) (e.loop x)) (around_says (e.loop i) (e.loop x))

  -- "1 outside all loops"
  pub outer_alone : (j : ℕ) → ((i : ℕ) → i < e.loops → ¬ Around (e.loop j) (e.loop i)) → outer e (e.loop j) ≡ 1
  unfolding outer innermost
  outer_alone j alone =
      chain_none (header_visits e) (λ i. around (e.loop j) (e.loop i)) e.loops (λ i m. (says_false (around_says (e.loop j) (e.loop i))).1 (alone i m))

  -- where rule 10 is kept, what is around a loop is no larger than a count may be
  pub outer_low :
      (b : ℕ) → 1 ≤ b → ((i : ℕ) → i < e.loops → count e (e.loop i).first ≤ b) → (j : ℕ) → j < e.loops → outer e (e.loop j) ≤ b
  unfolding outer innermost
  outer_low b one low j m =
      chain_low (header_visits e) b one (λ x. around (e.loop j) (e.loop x)) e.loops λ i n taken later.
      omega (
        arith,
        low i n,
        chain_last (header_visits e) (λ x. around (e.loop j) (e.loop x)) e.loops i n taken later,
        outer_next i j n m (says_true (around_says (e.loop j) (e.loop i)) taken)
            (λ x a c. (says_false (around_says (e.loop j) (e.loop x))).0 (later x a c)),
      )
