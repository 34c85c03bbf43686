-- `lists::numbers::visits_of`: version 1 has no W; else a loop has four numbers (`per_with`), and W is the last.
use native.Mathlib.Omega.{arith}
use mathlib.Core.Path.{sym, ◌∙◌, ap}
use Prim.Native.Nat.{ℕ, ◌*◌}
use Rattle.paper.proofs.LoopSizes.{per_with, visits_without, visits_with}
use Rattle.lists.proofs.LoopNumbers.{numbers_in, number_is}
use Rattle.lists.proofs.numbers.visits_of.Goals as goal

pub returns-then-trailer-eq-WITHOUT_W : goal.returns-then-trailer-eq-WITHOUT_W
returns-then-trailer-eq-WITHOUT_W c = sym (visits_without _ _ c.if-trailer-eq-WITHOUT_W.true)

pub bounds-loops-j : goal.bounds-loops-j
bounds-loops-j c =
    let four = per_with c.args.trailer.version c.if-trailer-eq-WITHOUT_W.false in
    omega (arith, four, ap (λ (p : ℕ). p * c.args.j) four, numbers_in c.args.trailer.version c.args.loops.now c.args.j _ c.requires.loops_len c.requires.j_lt_loops)

pub returns : goal.returns
returns c =
    number_is c.args.trailer.version 4 c.args.loops.now c.args.j 3 (sym (per_with _ c.if-trailer-eq-WITHOUT_W.false)) ∙ sym (visits_with _ _ c.if-trailer-eq-WITHOUT_W.false)
