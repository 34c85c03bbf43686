-- `paper::SetState::placed`: a hit leaves the lines as they are, and a miss replaces what stood in the line that it is told.
use Prim.Native.Nat.{ℕ}
use mathlib.Core.Path.{◌≡◌, ◌∙◌, ap}
use mathlib.Core.Bool.{false}
use mathlib.Core.List.{List}
use lib.ListN.{length}
use borrow.Author.Rules.{rules}
use Rattle.paper.specs.Ready.{stepped_of}
use Rattle.paper.proofs.MoveLaws.{placed_hit, placed_miss}
use Rattle.paper.proofs.SetState.placed.Goals as goal

pub returns-then-line : goal.returns-then-line
returns-then-line c =
    let s = c.before.before.before in
    let a = s.args in
    let e : length a.self.lines ≡ 8 = search rules in
    λ j g. c.stepped.ensures ∙ placed_hit a.k a.self.lines a.block.0 s.requires.ready e a.line s.requires.hit_value j a.bits c.if-line.true

pub returns : goal.returns
returns c =
    let s = c.before.before.before.before in
    let a = s.args in
    let e : length a.self.lines ≡ 8 = search rules in
    λ j g.
    c.stepped-2.ensures
    ∙ ap (λ (l : List ℕ). stepped_of l a.bits false) c.replaced.ensures
    ∙ placed_miss a.k a.self.lines a.block.0 s.requires.ready e a.line s.requires.hit_value j a.bits c.if-line.false g
