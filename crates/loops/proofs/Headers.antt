-- Where headers rise and two loops are nested or apart, all nodes of a loop have one count over the loops up to it.
use Prim.Native.Nat.{ℕ, suc, ◌≤◌, ◌<◌}
use native.Mathlib.Omega.{arith}
use mathlib.Core.Path.{◌≡◌, refl}
use Rattle.paper.specs.Lists.{chain}
use Rattle.paper.specs.Cases.{Case, inside}
use Rattle.paper.specs.Graphs.{header_visits}
use Rattle.paper.proofs.Says.{says_is, says_false, says_same}
use Rattle.paper.proofs.Meaning.{In}
use Rattle.paper.proofs.GraphLaws.{inside_says}
use Rattle.loops.specs.Counts.{count_to}
use Rattle.paper.proofs.Chain.{chain_same}

module _ (e : Case) where
  -- a loop that does not have the node has no part in its count
  pub count_out : (v j : ℕ) → ¬ In (e.loop j) v → count_to e v (suc j) ≡ count_to e v j
  unfolding count_to chain
  count_out v j n = rw ((says_false (inside_says (e.loop j) v)).1 n) refl

  -- rule 7 gives both
  module _
      (rises : (i j : ℕ) → i < j → j < e.loops → (e.loop i).first < (e.loop j).first)
      (nested : (i j : ℕ) → i < j → j < e.loops → (e.loop j).first ≤ (e.loop i).last → (e.loop j).last ≤ (e.loop i).last)
      (j : ℕ) (low : j < e.loops) (v : ℕ) (h : In (e.loop j) v) where
    -- an earlier loop has both the node and the header, or neither
    same : (i : ℕ) → i < j → inside (e.loop i) v ≡ inside (e.loop i) (e.loop j).first
    same i l =
        says_same
        (λ k. (omega (arith, rises i j l low), omega (arith, k, h)))
        (λ k. (omega (arith, k, h), omega (arith, h, nested i j l low k.1)))
        (inside_says (e.loop i) v)
        (inside_says (e.loop i) (e.loop j).first)

    -- all nodes of loop j have one count over the loops up to it
    pub count_same : count_to e v (suc j) ≡ count_to e (e.loop j).first (suc j)
    unfolding count_to chain
    count_same =
        let a = says_is (inside_says (e.loop j) v) h in
        let b = says_is (inside_says (e.loop j) (e.loop j).first) (omega (arith, h), omega (arith, h)) in
        rw (chain_same (header_visits e) (λ i. inside (e.loop i) v) (λ i. inside (e.loop i) (e.loop j).first) j same, a, b) refl
