-- `salvager::fill`: the lengths are known before anything is written.
use Prim.Native.Nat.{ℕ, ◌+◌, ◌*◌}
use native.Mathlib.Omega.{arith}
use mathlib.Core.Path.{◌∙◌, ap}
use mathlib.Core.List.{List, ◌++◌}
use lib.ListN.{length, drop}
use Rattle.puts.proofs.Putting.{put_whole}
use Rattle.salvager.proofs.Copied.{part_is}
use Rattle.salvager.proofs.SalvageEnds.{size_is, numbers_is, list_is, both_fit, too_small, filled}
use Rattle.salvager.proofs.fill.Goals as goal

pub returns-then-out-size : goal.returns-then-out-size
returns-then-out-size c =
    let a = c.args in
    too_small _ _ _ _ _ (size_is a.file.now a.trailer c.requires.trailer_value c.requires.laid a.s a.spans.now a.whys.now c.requires.sieved _ c.facts_at.ensures)
    (numbers_is a.file.now a.trailer c.requires.trailer_value c.requires.laid a.s a.spans.now a.whys.now c.requires.sieved)
    _ c.if-out-size.true c.refuse.ensures

pub copy_numbers-requires : goal.copy_numbers-requires
copy_numbers-requires c =
    let a = c.args in
    record { n_in_bounds = (both_fit (length a.out.now) (c.facts_at.result + a.s.size + 32) (length a.dropped.now) (3 * a.s.dropped) c.if-out-size.false).1; n_in_bounds_2 = c.requires.sieved.whys_room }

pub returns : goal.returns
returns c =
    let a = c.args in
    let fit = both_fit (length a.out.now) (c.facts_at.result + a.s.size + 32) (length a.dropped.now) (3 * a.s.dropped) c.if-out-size.false in
    let list = put_whole (record { room = omega (arith, c.copy_numbers.ensures.place, fit.1) }) c.copy_numbers.ensures in
    filled _ _ _ _ _ (size_is a.file.now a.trailer c.requires.trailer_value c.requires.laid a.s a.spans.now a.whys.now c.requires.sieved _ c.facts_at.ensures)
    (numbers_is a.file.now a.trailer c.requires.trailer_value c.requires.laid a.s a.spans.now a.whys.now c.requires.sieved)
    _ _ _ _ c.if-out-size.false c.requires.sieved.dropped c.put_file.ensures
    (list.1 ∙ ap (λ (l : List ℕ). l ++ drop (3 * a.s.dropped) a.dropped.now)
    (part_is a.whys.now (3 * a.s.dropped) 0 (omega (arith, c.requires.sieved.whys_room)) ∙ list_is a.file.now a.trailer c.requires.trailer_value c.requires.laid a.s a.spans.now a.whys.now c.requires.sieved))
