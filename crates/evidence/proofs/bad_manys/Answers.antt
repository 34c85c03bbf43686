-- The nodes are asked in turn whether they are at fault.
use borrow.Author.Rules.{rules}
use Rattle.paper.specs.Facts.{bad_many_at}
use Rattle.paper.specs.Files.{case_of}
use Rattle.evidence.specs.Stands.{fact_of}
use Rattle.evidence.proofs.Asks.{first_asked}
use Rattle.evidence.proofs.bad_manys.Goals as goal

pub returns : goal.returns
returns c =
    let p = bad_many_at (case_of c.args.file.now c.args.trailer) (fact_of c.args.file.now c.args.h) in
    rw (← c.nodes.ensures.value) (first_asked p c.nodes.result _ _ _ c.find.ensures.ran (λ x b q k. search rules))
