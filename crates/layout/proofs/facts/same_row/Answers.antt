-- `layout::facts::same_row`: where the halves are equal as numbers, so are the words packed into them.
use Prim.Native.Nat.{◌+◌}
use native.Mathlib.Omega.{arith}
use mathlib.Core.Path.{sym, ◌∙◌}
use borrow.Author.Tests.{eqb-true}
use Rattle.paper.specs.Files.{u16_at}
use Rattle.paper.proofs.Says.{both}
use Rattle.layout.proofs.Pack.{same_rows}
use Rattle.layout.proofs.facts.same_row.Goals as goal

pub returns : goal.returns
unfolding u16_at
returns c t =
    let e = both _ _ t in
    same_rows c.args.file.now (λ p. omega (arith, (c.type_inv.file p).fits, (c.type_inv.file (p + 1)).fits)) _ _
    (sym c.four_at.ensures ∙ eqb-true _ _ e.0 ∙ c.four_at-2.ensures)
    (sym c.four_at-3.ensures ∙ eqb-true _ _ e.1 ∙ c.four_at-4.ensures)
