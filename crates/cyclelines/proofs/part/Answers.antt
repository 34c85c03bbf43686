-- `cyclelines::part`: an input that is whole has no more costs than there is room for.
use borrow.Author.Rules.{rules}
use Rattle.cyclelines.proofs.CycleTexts.{whole_is}
use Rattle.cyclelines.proofs.part.Goals as goal

pub u16_at-n-requires : goal.u16_at-n-requires
u16_at-n-requires c =
    let w = whole_is _ c.requires in
    search (rules, w.0)

pub slice_bounds-timed-end : goal.slice_bounds-timed-end
slice_bounds-timed-end c =
    let w = whole_is _ c.requires in
    search (rules, w.1.0, w.1.1, c.u16_at-n.ensures)

pub timed-requires : goal.timed-requires
timed-requires c =
    let w = whole_is _ c.requires in
    search (rules, w.1.1, c.u16_at-n.ensures)
