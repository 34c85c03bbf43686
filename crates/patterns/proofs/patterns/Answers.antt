-- `patterns::patterns`: the lines fill the bytes.
use native.Mathlib.Omega.{arith}
use mathlib.Core.Path.{◌∙◌, sym, ap}
use lib.ListN.{length}
use Rattle.patterns.proofs.PatternTexts.{patterns_length, whole}
use Rattle.patterns.proofs.ShownLaws.{nmru_shape}
use Rattle.patterns.proofs.patterns.Goals as goal

pub lines-requires : goal.lines-requires
lines-requires c =
    record { w_bound = omega arith; shape = nmru_shape; fits = record { room = omega (arith, patterns_length, c.told-out) } }

pub returns : goal.returns
returns c =
    let e = whole (c.told-out ∙ sym patterns_length) c.lines.ensures in
    record { out_after = e; out_len = ap length e ∙ patterns_length }
