-- The nodes are asked in turn whether they fetch x.
use borrow.Author.Rules.{rules}
use Prim.Native.Nat.{◌+◌}
use lib.Dec.{eqb}
use Rattle.paper.specs.Files.{node_at}
use Rattle.evidence.proofs.Asks.{some_asked}
use Rattle.evidence.proofs.fetched.Goals as goal

pub returns : goal.returns
returns c = some_asked (λ j. eqb (node_at c.args.file.now (c.args.first + j)) c.args.x) c.args.n _ _ _ c.any.ensures.ran (λ x b q k. search rules)
