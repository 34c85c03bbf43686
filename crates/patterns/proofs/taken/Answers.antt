-- `patterns::taken`: the low byte of what a miss makes is the bit of its line (`victim_of`).
use native.Mathlib.Omega.{arith}
use Rattle.patterns.proofs.ShownLaws.{bits_low, victim_low, victim_of}
use Rattle.patterns.proofs.taken.Goals as goal

pub overflow_cast-p : goal.overflow_cast-p
overflow_cast-p c = omega (arith, c.requires.p_bound, bits_low _ c.requires.k_value)

pub overflow_cast-result-2 : goal.overflow_cast-result-2
overflow_cast-result-2 c =
    omega (arith, victim_of _ c.requires.k_value _ _ c.missed-at_miss.ensures, victim_low _ c.requires.k_value c.args.p)

pub returns : goal.returns
returns c = victim_of _ c.requires.k_value _ _ c.missed-at_miss.ensures
