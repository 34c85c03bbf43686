-- `paper::SetState::lru`: the lines that the shift does not keep move, on a hit and on a miss by one law (`lru_took`).
use Prim.Native.Nat.{ℕ}
use mathlib.Core.Path.{◌≡◌, refl, ◌∙◌, ap}
use mathlib.Core.List.{List}
use lib.Dec.{ltb}
use lib.ListN.{length}
use borrow.Author.Rules.{rules}
use Rattle.paper.specs.declared.Shift.{Shift}
use Rattle.paper.specs.Ready.{stepped_of}
use Rattle.lines.specs.Lines.{moved_by}
use Rattle.paper.proofs.MoveLaws.{lru_took}
use Rattle.paper.proofs.SetState.lru.Goals as goal

pub returns : goal.returns
returns c =
    let s = c.before.before.before.before.before in
    let a = s.args in
    let e : length a.self.lines ≡ 8 = search rules in
    c.stepped.ensures
    ∙ ap (λ (l : List ℕ). stepped_of l a.self.bits (ltb 0 a.shift.weight)) c.moved.ensures
    ∙ ap (λ (t : Shift). stepped_of (moved_by t.kept a.self.lines a.block.0) a.self.bits (ltb 0 t.weight)) s.requires.shift_value
    ∙ lru_took a.k a.self.lines a.self.bits a.block.0 _ s.requires.ready s.requires.block_nonzero e refl
