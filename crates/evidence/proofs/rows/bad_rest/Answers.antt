-- Slots before n are not free by right, so a look from n on is a look at all seven.
use borrow.Author.Rules.{rules}
use native.Mathlib.Omega.{arith}
use mathlib.Core.Bool.{not}
use mathlib.Core.Path.{refl}
use lib.Dec.{eqb}
use Rattle.paper.specs.Files.{row_at}
use Rattle.paper.specs.Machines.{none}
use Rattle.evidence.specs.RowParts.{unfree}
use Rattle.evidence.proofs.Asks.{some_asked_from}
use Rattle.evidence.proofs.Slots.{unfree_before, unfree_at}
use Rattle.evidence.proofs.rows.bad_rest.Goals as goal

pub returns : goal.returns
returns c =
    let r = row_at c.args.file.now c.args.at in
    some_asked_from (unfree c.args.n r) (λ k. not (eqb (r.slot k) none)) c.args.n 7 (unfree_before _ r) (λ k l. unfree_at _ r k _ _ l refl refl) (omega arith) _ _ _ c.any.ensures.ran
    (λ x b q k. search rules)
