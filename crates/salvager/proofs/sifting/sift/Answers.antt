-- `salvager::sifting::sift` judges each fact into the table.
use native.Mathlib.Omega.{arith}
use Rattle.salvager.proofs.Sifts.{sift_start, sift_keep, sift_drop, sift_end, ends_later}
use Rattle.salvager.proofs.sifting.sift.Goals.{in-Ok, in-Err}
use Rattle.salvager.proofs.sifting.sift.Goals as goal

pub loop-i-init : goal.loop-i-init
loop-i-init c =
    sift_start _ _ _ _ c.requires.laid _ c.facts_at-p.ensures

pub overflow_sub-size : goal.overflow_sub-size
overflow_sub-size c =
    ends_later _ _ _ _ c.loop-i.invariant c.loop-i-test.true _ c.turn_of.ensures _ c.in-Ok.is

pub loop-i-preserved : goal.loop-i-preserved
loop-i-preserved c =
    elim c.match-turn_of.branch [
      | in-Ok w ↦
          rw (w.spans-is, w.whys-is, w.kept-is, w.dropped-is, w.size-is, w.previous-is, w.p-is)
          (sift_keep _ _ _ _ c.loop-i.invariant c.loop-i-test.true _ c.turn_of.ensures _ w.in-Ok.is _ w.put_span.ensures)
      | in-Err w ↦
          rw (w.spans-is, w.whys-is, w.kept-is, w.dropped-is, w.size-is, w.previous-is, w.p-is)
          (sift_drop _ _ _ _ c.loop-i.invariant c.loop-i-test.true _ c.turn_of.ensures _ w.in-Err.is _ w.put_why.ensures _ w.next_place-p.ensures.value w.next_place-p.ensures.lower_bound.0 w.next_place-p.ensures.lower_bound.1)
    ]

pub returns : goal.returns
returns c =
    sift_end _ _ _ _ c.loop-i.invariant c.requires.laid c.requires.most_facts_in_bounds c.requires.most_facts_in_bounds_2 (omega arith)
