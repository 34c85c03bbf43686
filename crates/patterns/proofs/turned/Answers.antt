-- `patterns::turned`: the line's bit leads to the line again (`line_of`).
use native.Mathlib.Omega.{arith}
use mathlib.Core.Path.{◌∙◌, ap}
use Rattle.paper.specs.Trees.{turned}
use Rattle.patterns.proofs.ShownLaws.{few_ways, bits_low, bit_of, line_of}
use Rattle.patterns.proofs.turned.Goals as goal

pub overflow_cast-p : goal.overflow_cast-p
overflow_cast-p c = omega (arith, c.requires.p_bound, bits_low _ c.requires.k_value)

pub overflow_cast-j : goal.overflow_cast-j
overflow_cast-j c = omega (arith, c.requires.j_lt_k, few_ways _ c.requires.k_value)

pub overflow_shl-j : goal.overflow_shl-j
overflow_shl-j c = omega (arith, c.requires.j_lt_k, few_ways _ c.requires.k_value)

pub turn-requires : goal.turn-requires
turn-requires c =
    record { k_value = c.requires.k_value; bits_bound = c.requires.p_bound; bit = bit_of _ c.requires.k_value _ c.requires.j_lt_k }

pub returns : goal.returns
returns c =
    c.turn.ensures ∙ ap (turned c.args.k c.args.p) (line_of _ c.requires.k_value _ c.requires.j_lt_k)
