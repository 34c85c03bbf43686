-- `waylines::part`: an input that is whole has no more accesses than there is room for.
use borrow.Author.Rules.{rules}
use Rattle.waylines.proofs.WayTexts.{whole_is}
use Rattle.waylines.proofs.part.Goals as goal

pub overflow_sub-n : goal.overflow_sub-n
overflow_sub-n c =
    let w = whole_is _ c.requires in
    search (rules, w.0)

pub slice_bounds-counted-end : goal.slice_bounds-counted-end
slice_bounds-counted-end c =
    let w = whole_is _ c.requires in
    search (rules, w.1.0)

pub counted-requires : goal.counted-requires
counted-requires c =
    let w = whole_is _ c.requires in
    search (rules, w.0, w.1.1)
