-- Every loop that is passed over ends before the header, so the first that does not is the last that contains it.
use Prim.Native.Nat.{◌-◌, ◌<◌}
use native.Mathlib.Omega.{arith}
use lib.ListN.{get_or}
use Rattle.paper.specs.Files.{case_of}
use Rattle.charge.proofs.LoopsOut.{Passing, passing_low, passing_found, passing_more, passing_end}
use Rattle.charge.proofs.asked.Asked.next_out.Goals as goal

pub returns-then-header-loop_at : goal.returns-then-header-loop_at
unfolding case_of
returns-then-header-loop_at c =
    passing_found _ c.args.self.now.ready.lawful _ c.requires.j_lt_loops _ c.loop-c.invariant _ _ c.loop_at-header.ensures c.loop_at.ensures c.loop-c-test.true
    c.if-header-loop_at.true

more : (c : goal.After-c-1) →
    let a = c.args in
    let n = get_or a.outers.now (c.loop-c.c - 1) 0 in
    (n < c.loop-c.c) × Passing (case_of a.self.now.file.now a.self.now.trailer) a.j n
unfolding case_of
more c =
    let low = passing_low _ c.args.self.now.ready.lawful _ c.requires.j_lt_loops _ c.loop-c.invariant c.loop-c-test.true in
    passing_more _ c.args.self.now.ready.lawful _ c.requires.j_lt_loops _ c.loop-c.invariant _ _ c.loop_at-header.ensures c.loop_at.ensures c.loop-c-test.true
    (omega (arith, c.if-header-loop_at.false)) _ (c.requires.outers.at _ low.0)

pub loop-c-smaller : goal.loop-c-smaller
loop-c-smaller c = (more c).0

pub loop-c-preserved : goal.loop-c-preserved
loop-c-preserved c = (more c).1

pub returns : goal.returns
unfolding case_of
returns c =
    passing_end _ c.args.self.now.ready.lawful _ c.requires.j_lt_loops _ c.loop-c.invariant (omega (arith, c.loop-c-test.false))
