-- `trees::turn`: the two masks of the line's number turn what the definition turns (`turned_by`).
use Prim.Native.Nat.{ℕ, ◌+◌, ◌-◌, ◌<◌, ◌≤◌}
use native.Mathlib.Omega.{arith}
use mathlib.Core.Path.{◌≡◌, ◌∙◌, ap, ap₂}
use mathlib.Core.Bool.{true}
use mathlib.Core.List.{List}
use lib.Bits.{bit_or, bit_and}
use lib.Count.{count_trailing_zeros}
use lib.ListN.{get_or}
use Rattle.paper.specs.Machines.{offered}
use Rattle.paper.specs.Policies.{tree_policy}
use Rattle.paper.specs.Shifts.{Bit}
use Rattle.paper.proofs.Masks.{zeros_bit}
use Rattle.paper.proofs.TreeLaws.{tree_range}
use Rattle.trees.proofs.TreeEntries.{ways, turned_by}
use Rattle.trees.proofs.turn.Goals as goal

-- the line by its bit, which is one of the k
line : (k m : ℕ) → offered tree_policy k ≡ true → Bit k m → (count_trailing_zeros 32 m < k) × (2 ≤ k) × (k ≤ 8)
line k m o b =
    let r = tree_range k (ways k o) in
    let e : count_trailing_zeros 32 m ≡ b.at = ap (count_trailing_zeros 32) b.is ∙ zeros_bit 32 b.at (omega (arith, b.low)) in
    (omega (arith, b.low), r.0, r.1)

pub overflow_cast-j-2 : goal.overflow_cast-j-2
overflow_cast-j-2 c = omega (arith, line _ _ c.requires.k_value c.requires.bit)

pub overflow_add-at : goal.overflow_add-at
overflow_add-at c = omega (arith, line _ _ c.requires.k_value c.requires.bit)

pub bounds-ones-at : goal.bounds-ones-at
bounds-ones-at c = omega (arith, line _ _ c.requires.k_value c.requires.bit)

pub bounds-zeros-at : goal.bounds-zeros-at
bounds-zeros-at c = let s = c.before in omega (arith, line _ _ s.requires.k_value s.requires.bit)

pub returns : goal.returns
returns c =
    let s = c.before.before in
    let a = s.args in
    let at = a.k - 1 + count_trailing_zeros 32 a.bit in
    ap₂ (λ (x y : List ℕ). bit_or (bit_and a.bits (get_or x at 0)) (get_or y at 0)) s.requires.ones_value s.requires.zeros_value
    ∙ turned_by a.k (ways _ s.requires.k_value) a.bits (count_trailing_zeros 32 a.bit) (line _ _ s.requires.k_value s.requires.bit).0 s.requires.bits_bound
