-- Two to the power of l tells whether l is at most 1 + log2 k (`limit-kept`, `limit-passed`).
use Prim.Native.Nat.{ℕ, suc, ◌+◌, ◌-◌, ◌*◌, ◌%◌, ◌^◌, ◌<◌, ◌≤◌}
use native.Mathlib.Nat.{pow-suc}
use native.Mathlib.Decide.{dec_lt}
use native.Mathlib.Omega.{arith}
use mathlib.Core.Path.{◌≡◌, ◌∙◌, ap}
use lib.Pow.{pow_mono, shl_exact}
use borrow.Author.Tests.{le-leb, lt-leb, leb-true, leb-false}
use Rattle.paper.specs.Trees.{levels, tree_limit}
use Rattle.paper.proofs.Least.{least_before, least_at}
use Rattle.formulas.proofs.tree_bound.Goals as goal

-- 2^levels is the least power of two that is not below k
module _ (k : ℕ) (h : k ≤ 8) where
  reaches : k ≤ 2 ^ levels k
  unfolding levels
  reaches =
      elim (dec_lt (levels k) 3) [
        | yes y ↦ leb-true k (2 ^ levels k) (least_at _ 3 y)
        | no y ↦ omega (arith, pow_mono {i = 3} {j = levels k} (omega arith))
      ]

  before : (d : ℕ) → d < levels k → 2 ^ d < k
  unfolding levels
  before d l = omega (arith, leb-false k (2 ^ d) (least_before _ 3 d l))

  module _ (l : ℕ) (low : 2 ≤ k) where
    one_less : suc (levels k - 1) ≡ levels k
    one_less =
        elim (dec_lt 0 (levels k)) [
          | yes y ↦ omega arith
          | no y ↦ let e : levels k ≡ 0 = omega arith in absurd (omega (arith, reaches, ap (λ (n : ℕ). 2 ^ n) e))
        ]

    limit-kept : 2 ^ l < 4 * k → l ≤ tree_limit k
    unfolding tree_limit
    limit-kept f =
        elim (dec_lt (1 + levels k) l) [
          | yes y ↦ absurd (omega (arith, reaches, pow_mono {i = suc (suc (levels k))} {j = l} (omega arith), pow-suc 2 (suc (levels k)), pow-suc 2 (levels k)))
          | no y ↦ omega arith
        ]

    limit-passed : 4 * k ≤ 2 ^ l → tree_limit k < l
    unfolding tree_limit
    limit-passed f =
        elim (dec_lt (1 + levels k) l) [
          | yes y ↦ y
          | no y ↦
              absurd
              (omega (
                arith,
                before (levels k - 1) (omega (arith, one_less)),
                pow_mono {i = l} {j = suc (levels k)} (omega arith),
                pow-suc 2 (levels k),
                pow-suc 2 (levels k - 1),
                ap (λ (n : ℕ). 2 ^ n) one_less,
              ))
        ]

two_is : (l : ℕ) → l ≤ 8 → 1 * 2 ^ l % 2 ^ 64 ≡ 2 ^ l
two_is l h = shl_exact {a = 1} 1 l 64 (omega arith) (omega arith) ∙ omega arith

-- a limit of 1 is kept with any number of ways
one_kept : (k l : ℕ) → l < 2 → l ≤ tree_limit k
unfolding tree_limit
one_kept k l h = omega arith

pub returns-then-l-lt2 : goal.returns-then-l-lt2
returns-then-l-lt2 c = rw (le-leb c.args.l _ (one_kept c.args.k c.args.l (omega (arith, c.if-l-lt2.true))))

pub returns-then-two-k : goal.returns-then-two-k
returns-then-two-k c =
    let a = c.args in
    rw (le-leb a.l _ (limit-kept a.k (omega arith) a.l (omega (arith, c.if-l-lt2.false)) (omega (arith, c.if-two-k.true, two_is a.l (omega arith)))))

pub returns-else-two-k : goal.returns-else-two-k
returns-else-two-k c =
    let a = c.args in
    rw (lt-leb a.l _ (limit-passed a.k (omega arith) a.l (omega (arith, c.if-l-lt2.false)) (omega (arith, c.if-two-k.false, two_is a.l (omega arith)))))
