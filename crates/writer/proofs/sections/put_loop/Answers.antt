-- `writer::sections::put_loop`: version 1 ends with B, version 2 with W.
use native.Mathlib.Omega.{arith}
use Rattle.paper.proofs.LoopSizes.{size_low, size_without, size_with}
use Rattle.puts.proofs.Putting.{put_length, put_then}
use Rattle.writer.proofs.Words.{put_as}
use Rattle.writer.proofs.LoopBytes.{loop_without, loop_with}
use Rattle.writer.proofs.sections.put_loop.Goals as goal

pub put_front-visits-requires : goal.put_front-visits-requires
put_front-visits-requires c =
    record { visits_field_in_bounds = omega (arith, c.requires.version_in_bounds, size_low c.args.trailer.version); j_lt_loops = c.requires.j_lt_loops; narrow_loops = c.requires.narrow_loops }

pub returns-then-trailer-eq-WITHOUT_W : goal.returns-then-trailer-eq-WITHOUT_W
returns-then-trailer-eq-WITHOUT_W c =
    let a = c.args in
    record { put = put_as (loop_without a.trailer a.loops.now a.j c.if-trailer-eq-WITHOUT_W.true) c.put_front-visits.ensures.put; value = omega (arith, c.put_front-visits.ensures.value, size_without a.trailer.version c.if-trailer-eq-WITHOUT_W.true) }

pub put_long-requires : goal.put_long-requires
put_long-requires c =
    omega (arith, c.requires.version_in_bounds, c.put_front-visits.ensures.value, put_length c.put_front-visits.ensures.put, size_with c.args.trailer.version c.if-trailer-eq-WITHOUT_W.false)

pub returns : goal.returns
returns c =
    let a = c.args in
    record { put = put_as (loop_with a.trailer a.loops.now a.j c.if-trailer-eq-WITHOUT_W.false _ c.visits_of.ensures) (put_then c.put_front-visits.ensures.put c.put_long.ensures.put); value = omega (arith, c.put_front-visits.ensures.value, c.put_long.ensures.value, size_with a.trailer.version c.if-trailer-eq-WITHOUT_W.false) }
