-- The laws of the nodes chained by buckets, and of the loop that chains them.
use Prim.Native.Nat.{ℕ, suc, ◌+◌, ◌≤◌, ◌<◌}
use native.Mathlib.Omega.{arith}
use native.Mathlib.Decide.{ℕ_discrete}
use mathlib.Core.Path.{◌≡◌, sym, ◌∙◌}
use mathlib.Core.Logic.{◌≢◌}
use mathlib.Core.List.{List}
use borrow.Author.Tests.{eq-eqb, ne_eqb}
use lib.Dec.{eqb}
use lib.ListN.{length, get_or, set, length-set, replicate, get_or-replicate, length-replicate}
use lib.Seq.{get_or-set_same, get_or-set_other}
use Rattle.paper.specs.Cases.{Case}
use Rattle.paper.proofs.Says.{says_eq, says_true, says_false}
use Rattle.charge.specs.Chained.{bucket, last_in, Chained}
use Rattle.charge.specs.NextOut.{last_of}
use Rattle.charge.specs.Sizes as Sizes
use Rattle.charge.proofs.Last.{last_low, last_is, last_none, last_more}

module _ (e : Case) (h : ℕ) where
  pub chain_low : (n : ℕ) → last_in e h n ≤ n
  chain_low n = last_low (λ v. eqb (bucket e v) h) n

  -- the node before it is of the bucket
  pub chain_is : (n v : ℕ) → last_in e h n ≡ suc v → bucket e v ≡ h
  chain_is n v q = says_true (says_eq _ _) (last_is (λ v. eqb (bucket e v) h) n v q)

  -- and none after it
  pub chain_none : (n u : ℕ) → last_in e h n ≤ u → u < n → bucket e u ≢ h
  chain_none n u l k = (says_false (says_eq _ _)).0 (last_none (λ v. eqb (bucket e v) h) n u l k)

-- no node is chained
pub chained_start : (e : Case) → Chained e 0 (replicate Sizes.chained 0)
unfolding last_of
chained_start e =
    record {
      room = omega (arith, length-replicate {A = ℕ} Sizes.chained 0);
      lasts = λ h l. get_or-replicate Sizes.chained h 0 0 (omega arith);
      befores = λ v l. absurd (omega arith);
    }

-- one more node is chained
pub chained_more :
    (e : Case) (n k x : ℕ) (chain : List ℕ) → n < Sizes.nodes → Chained e n chain → k ≡ bucket e n → k < Sizes.buckets → x ≡ get_or chain k 0
    → Chained e (n + 1) (set (set chain (Sizes.buckets + n) x) k (n + 1))
chained_more e n k x chain hn w ek hk ex =
    let r : length (set chain (Sizes.buckets + n) x) ≡ length chain = length-set chain (Sizes.buckets + n) x in
    record {
      room = omega (arith, w.room, r, length-set (set chain (Sizes.buckets + n) x) k (n + 1));
      lasts =
          λ h l.
          elim (ℕ_discrete h k) [
            | yes q ↦
                rw (q, last_more (λ v. eqb (bucket e v) k) n, eq-eqb (bucket e n) k (sym ek))
                (get_or-set_same (set chain (Sizes.buckets + n) x) k (n + 1) 0 (omega (arith, w.room, r)))
            | no q ↦
                rw (last_more (λ v. eqb (bucket e v) h) n, ne_eqb (bucket e n) h (λ z. q (sym z ∙ sym ek)))
                (get_or-set_other (set chain (Sizes.buckets + n) x) k h (n + 1) 0 q ∙ get_or-set_other chain (Sizes.buckets + n) h x 0 (omega arith) ∙ w.lasts h l)
          ];
      befores =
          λ v l.
          get_or-set_other (set chain (Sizes.buckets + n) x) k (Sizes.buckets + v) (n + 1) 0 (omega arith)
          ∙ elim (ℕ_discrete v n) [
            | yes q ↦
                rw (q, ← ek) (get_or-set_same chain (Sizes.buckets + n) x 0 (omega (arith, w.room)) ∙ ex ∙ w.lasts k hk)
            | no q ↦ get_or-set_other chain (Sizes.buckets + n) (Sizes.buckets + v) x 0 (omega arith) ∙ w.befores v (omega arith)
          ];
    }
