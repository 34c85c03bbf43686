-- `paper::methods::missed_bit`: the lowest empty line of all is one of the k, or none of the k is empty and the bits decide.
use Prim.Native.Nat.{ℕ, ◌*◌, ◌%◌, ◌^◌, ◌≤◌, ◌<◌}
use native.Mathlib.Omega.{arith}
use mathlib.Core.Path.{◌≡◌, ◌∙◌, ap}
use lib.ListN.{length}
use lib.Pow.{shl_exact}
use borrow.Author.Rules.{rules}
use Rattle.paper.specs.Machines.{none, miss_line}
use Rattle.paper.proofs.LineLaws.{or_found, or_other}
use Rattle.paper.proofs.methods.missed_bit.Goals as goal

-- the value of a line's bit
bit_of : (i k : ℕ) → i < k → k ≤ 8 → 1 * 2 ^ i % 65536 ≡ 2 ^ i
bit_of i k h g = shl_exact {a = 1} 1 i 16 (omega arith) (omega arith) ∙ omega arith

pub returns-then-i-k : goal.returns-then-i-k
unfolding miss_line
returns-then-i-k c =
    let i = c.lowest_empty-i in
    let a = c.args in
    let e : length a.lines ≡ 8 = search rules in
    let h : i.result < a.k = omega (arith, c.if-i-k.true) in
    bit_of i.result a.k h (omega arith) ∙ ap (λ (j : ℕ). 2 ^ j) (or_found a.k a.lines none i.result (omega arith) i.ensures.value _ h)

pub returns : goal.returns
unfolding miss_line
returns c =
    let i = c.lowest_empty-i in
    let a = c.args in
    let e : length a.lines ≡ 8 = search rules in
    c.lowest_clear.ensures ∙ ap (λ (j : ℕ). 2 ^ j) (or_other a.k a.lines none i.result (omega arith) i.ensures.value _ c.if-i-k.false)
