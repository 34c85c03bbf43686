-- `writer::write_fitting`: the file's length is known before a byte is written.
use Prim.Native.Nat.{◌≤◌}
use native.Mathlib.Omega.{arith}
use borrow.Author.Rules.{rules}
use Rattle.writer.proofs.Written.{size_of, too_short, fitted}
use Rattle.writer.proofs.LoopBytes.{facts_narrow}
use Rattle.writer.proofs.write_fitting.Goals as goal

-- the facts begin early, so the sum is small
early : (g : goal.After-struct_known-1) → g.facts_at.result ≤ 1179630
early g =
    let k = g.requires.listed in
    omega (
      arith,
      g.facts_at.ensures,
      facts_narrow g.args.trailer (omega (arith, k.nodes_high)) (omega (arith, k.edges_high)) (omega (arith, k.loops_high)),
    )

pub returns-then-out-size : goal.returns-then-out-size
returns-then-out-size c =
    let a = c.args in
    too_short _ _ _ (size_of a.trailer a.lists.now.nodes.now a.lists.now.edges.now a.lists.now.loops.now a.lists.now.heads.now a.lists.now.rows.now c.requires.listed _ c.facts_at.ensures) _
    (omega (arith, c.if-out-size.true)) c.refuse.ensures

pub returns : goal.returns
returns c =
    let a = c.args in
    fitted _ _ _ (size_of a.trailer a.lists.now.nodes.now a.lists.now.edges.now a.lists.now.loops.now a.lists.now.heads.now a.lists.now.rows.now c.requires.listed _ c.facts_at.ensures) _ _
    (omega (arith, c.if-out-size.false)) c.put_file.ensures

pub overflow_add-size : goal.overflow_add-size
overflow_add-size c = search (rules, early c)

pub overflow_add-size-2 : goal.overflow_add-size-2
overflow_add-size-2 c = search (rules, early c)

pub overflow_add-size-3 : goal.overflow_add-size-3
overflow_add-size-3 c = search (rules, early c)
