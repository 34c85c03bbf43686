-- `paper::SetState::fifo`: a block that stands in a line has a weight above 0; on a miss the lines below k move.
use mathlib.Core.Path.{◌≡◌, ◌∙◌, ap}
use mathlib.Core.Bool.{false}
use mathlib.Core.List.{List}
use Prim.Native.Nat.{ℕ}
use lib.ListN.{length}
use borrow.Author.Rules.{rules}
use Rattle.paper.specs.Ready.{stepped_of}
use Rattle.lines.specs.Lines.{moved_by}
use Rattle.paper.proofs.MoveLaws.{fifo_hit, fifo_miss}
use Rattle.paper.proofs.SetState.fifo.Goals as goal

pub returns-then-weight-gt0 : goal.returns-then-weight-gt0
returns-then-weight-gt0 c =
    let s = c.before.before.before.before in
    let e : length s.args.self.lines ≡ 8 = search rules in
    c.stepped.ensures ∙ fifo_hit _ _ _ _ _ s.requires.ready s.requires.block_nonzero e c.weight.ensures c.if-weight-gt0.true

pub returns : goal.returns
returns c =
    let s = c.before.before.before.before.before in
    let a = s.args in
    let e : length a.self.lines ≡ 8 = search rules in
    c.stepped-2.ensures
    ∙ ap (λ (l : List ℕ). stepped_of l a.self.bits false) (c.moved.ensures ∙ ap (λ (m : List ℕ). moved_by m a.self.lines a.block.0) s.requires.beyond_value)
    ∙ fifo_miss a.k a.self.lines a.self.bits a.block.0 _ s.requires.ready s.requires.block_nonzero e c.weight.ensures c.if-weight-gt0.false
