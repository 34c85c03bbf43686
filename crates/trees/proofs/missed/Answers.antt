-- `trees::missed`: the entry of k ways' bits (`miss_at_lem`).
use Prim.Native.Nat.{ℕ, ◌+◌, ◌-◌, ◌*◌, ◌%◌, ◌^◌, ◌≤◌}
use native.Mathlib.Omega.{arith}
use mathlib.Core.Path.{◌≡◌, ◌∙◌, ap₂}
use mathlib.Core.List.{List}
use lib.ListN.{get_or}
use lib.Pow.{shl_exact}
use Rattle.paper.proofs.TreeLaws.{tree_range}
use Rattle.trees.proofs.TreeEntries.{ways, first_low, miss_at_lem}
use Rattle.trees.proofs.missed.Goals as goal

first_is : (k : ℕ) → k ≤ 8 → 1 * 2 ^ (k - 1) % 2 ^ 64 ≡ 2 ^ (k - 1)
first_is k h = shl_exact {a = 1} 1 (k - 1) 64 (omega arith) (omega arith) ∙ omega arith

pub overflow_sub-first : goal.overflow_sub-first
overflow_sub-first c = omega (arith, tree_range _ (ways _ c.requires.k_value))

pub overflow_shl-first : goal.overflow_shl-first
overflow_shl-first c = omega (arith, tree_range _ (ways _ c.requires.k_value))

pub overflow_add-result : goal.overflow_add-result
overflow_add-result c =
    let w = ways _ c.requires.k_value in
    omega (arith, first_is c.args.k (tree_range _ w).1, first_low _ w _ c.requires.bits_bound)

pub offset_bounds-misses-first : goal.offset_bounds-misses-first
offset_bounds-misses-first c =
    let w = ways _ c.requires.k_value in
    omega (arith, first_is c.args.k (tree_range _ w).1, first_low _ w _ c.requires.bits_bound)

pub bounds-misses-first : goal.bounds-misses-first
bounds-misses-first c =
    let w = ways _ c.requires.k_value in
    omega (arith, first_is c.args.k (tree_range _ w).1, first_low _ w _ c.requires.bits_bound)

pub returns : goal.returns
returns c =
    let s = c.before in
    let w = ways _ s.requires.k_value in
    ap₂ (λ (l : List ℕ) (n : ℕ). get_or l (n + s.args.bits) 0) s.requires.misses_value (first_is s.args.k (tree_range _ w).1)
    ∙ miss_at_lem _ w s.args.bits s.requires.bits_bound
