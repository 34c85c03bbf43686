-- The n blocks are asked in turn whether they are x.
use borrow.Author.Rules.{rules}
use lib.Dec.{eqb}
use Rattle.paper.specs.Facts.{holds}
use Rattle.paper.specs.Files.{row_at}
use Rattle.evidence.proofs.Asks.{some_asked}
use Rattle.evidence.proofs.Slots.{set_held}
use Rattle.evidence.proofs.steps.holds.Goals as goal

pub returns : goal.returns
unfolding holds
returns c =
    let r = row_at c.args.file.now c.args.at in
    rw (set_held c.requires) (some_asked (λ k. eqb (r.slot k) c.args.x) c.args.n _ _ _ c.any.ensures.ran (λ x b q k. search rules))
