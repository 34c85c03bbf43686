-- `paper::SetState::nmru`: the line that it is told is the access's; its bit is marked.
use mathlib.Core.Path.{◌∙◌}
use Rattle.paper.specs.Machines.{miss_line}
use Rattle.paper.proofs.MoveLaws.{bit_is, hit_is, line_bit, nmru_took}
use Rattle.paper.proofs.SetState.nmru.Goals as goal

pub mark-requires : goal.mark-requires
mark-requires c =
    let a = c.args in
    record { bit = line_bit a.k a.self a.block.0 c.requires.bits_bound a.line c.requires.line_value; k_bound = (c.requires.ready.high, c.requires.bits_bound) }

pub placed-requires : goal.placed-requires
placed-requires c =
    let s = c.before in
    let a = s.args in
    record { ready = s.requires.ready; hit_value = hit_is a.k a.self a.block.0 s.requires.bits_bound a.line s.requires.line_value }

pub returns : goal.returns
returns c =
    let s = c.before.before in
    let a = s.args in
    let f = s.requires.line_value in
    c.placed.ensures (miss_line a.k a.self) (bit_is a.k a.self a.block.0 s.requires.bits_bound a.line f)
    ∙ nmru_took a.k a.self a.block.0 s.requires.bits_bound a.line f _ c.mark.ensures
