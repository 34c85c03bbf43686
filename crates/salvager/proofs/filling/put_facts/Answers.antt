-- `salvager::filling::put_facts`: a fact after another, by the table.
use native.Mathlib.Omega.{arith}
use Rattle.salvager.proofs.KeptPut.{placed_fits, placed_more, span_rises, span_within}
use Rattle.salvager.proofs.filling.put_facts.Goals as goal

pub word-to-requires : goal.word-to-requires
word-to-requires c =
    placed_fits _ _ c.requires.sieved c.loop-j.invariant c.requires.size_in_bounds c.loop-j-test.true

pub loop-j-preserved : goal.loop-j-preserved
loop-j-preserved c =
    placed_more _ _ c.requires.sieved c.loop-j.invariant c.loop-j-test.true c.word-to.ensures

pub slice_bounds-word-start : goal.slice_bounds-word-start
slice_bounds-word-start c = span_rises _ _ c.requires.sieved _ c.loop-j-test.true

pub slice_bounds-word-count : goal.slice_bounds-word-count
slice_bounds-word-count c = span_rises _ _ c.requires.sieved _ c.loop-j-test.true

pub slice_bounds-word-end : goal.slice_bounds-word-end
slice_bounds-word-end c = omega (arith, span_within _ _ c.requires.sieved _ c.loop-j-test.true)
