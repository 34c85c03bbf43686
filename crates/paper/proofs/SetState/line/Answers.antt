-- `paper::SetState::line`: the block's own line by its weight, and at a miss the line that is looked for.
use Prim.Native.Nat.{◌^◌}
use mathlib.Core.Path.{◌≡◌, refl}
use lib.ListN.{length}
use borrow.Author.Rules.{rules}
use Rattle.paper.specs.Machines.{miss_line}
use Rattle.paper.proofs.MoveLaws.{line_low, found_hit, found_miss, nmru_line_lem}
use Rattle.paper.proofs.SetState.line.Goals as goal

pub overflow_sub-result : goal.overflow_sub-result
overflow_sub-result c =
    let s = c.before.before.before in
    let e : length s.args.self.lines ≡ 8 = search rules in
    line_low _ _ 0 _ _ s.requires.ready s.requires.block_nonzero e c.weight-w.ensures c.if-w-gt0.true

pub returns-then-w-gt0 : goal.returns-then-w-gt0
returns-then-w-gt0 c =
    let s = c.before.before.before in
    let a = s.args in
    let e : length a.self.lines ≡ 8 = search rules in
    let m = 2 ^ miss_line a.k a.self in
    let f = found_hit _ _ 0 _ _ s.requires.ready s.requires.block_nonzero e c.weight-w.ensures m c.if-w-gt0.true in
    nmru_line_lem a.k a.self a.block.0 m _ refl f.0 f.1

pub returns : goal.returns
returns c =
    let s = c.before.before.before.before in
    let a = s.args in
    let e : length a.self.lines ≡ 8 = search rules in
    let f = found_miss _ _ 0 _ _ s.requires.ready s.requires.block_nonzero e c.weight-w.ensures c.missed_bit.result c.if-w-gt0.false in
    nmru_line_lem a.k a.self a.block.0 _ _ c.missed_bit.ensures f.0 f.1
