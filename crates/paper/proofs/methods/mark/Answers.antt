-- `paper::methods::mark`: for eight ways by the table's rule, for others by the mask.
use Prim.Native.Nat.{ℕ, ◌≤◌}
use native.Mathlib.Omega.{arith}
use mathlib.Core.Path.{◌≡◌, sym, ◌∙◌, ap, ap₂}
use lib.Count.{count_trailing_zeros}
use lib.Pow.{pow-lt}
use lib.Bits.{or_lt}
use Rattle.paper.specs.Machines.{marked}
use Rattle.paper.specs.Shifts.{Bit, marked_by}
use Rattle.paper.proofs.Masks.{zeros_bit, full_is, mark_full, mark_more}
use Rattle.paper.proofs.methods.mark.Goals as goal

place : (k m : ℕ) (b : Bit k m) → k ≤ 8 → count_trailing_zeros 32 m ≡ b.at
place k m b h = ap (count_trailing_zeros 32) b.is ∙ zeros_bit 32 b.at (omega (arith, b.low))

pub after-requires : goal.after-requires
after-requires c = omega (arith, place _ _ c.requires.bit c.requires.k_bound.0, c.requires.bit.low)

pub returns-then-k-eq8 : goal.returns-then-k-eq8
unfolding marked_by marked
returns-then-k-eq8 c =
    let a = c.args in
    let b = c.requires.bit in
    let e : 8 ≡ a.k = sym c.if-k-eq8.true in
    c.after.ensures
    ∙ ap (marked 8 a.bits) (place _ _ b c.requires.k_bound.0)
    ∙ ap₂ (λ (n m : ℕ). marked_by n a.bits m) e (sym b.is)

pub overflow_cast-result : goal.overflow_cast-result
overflow_cast-result c =
    let s = c.before.before in
    omega (arith, s.requires.bit.is, pow-lt {i = s.requires.bit.at} {j = 8} (omega (arith, s.requires.bit.low)))

pub overflow_cast-result-else-q-full : goal.overflow_cast-result-else-q-full
overflow_cast-result-else-q-full c =
    let s = c.before.before in
    omega (arith, or_lt 8 s.args.bits s.args.bit (omega arith) (omega (arith, s.requires.bit.is, pow-lt {i = s.requires.bit.at} {j = 8} (omega (arith, s.requires.bit.low)))))

pub returns-then-q-full : goal.returns-then-q-full
returns-then-q-full c =
    let s = c.before.before in
    mark_full s.args.k s.args.bits s.args.bit s.requires.bit s.requires.k_bound.1 (c.if-q-full.true ∙ full_is s.args.k (omega arith))

pub returns-else-q-full : goal.returns-else-q-full
returns-else-q-full c =
    let s = c.before.before in
    mark_more s.args.k s.args.bits s.args.bit s.requires.bit s.requires.k_bound.1 (λ f. c.if-q-full.false (f ∙ sym (full_is s.args.k (omega arith))))
