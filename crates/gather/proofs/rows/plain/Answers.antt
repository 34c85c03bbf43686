-- `gather::rows::plain`: the eight numbers themselves.
use mathlib.Core.Path.{refl}
use Rattle.lines.specs.Lines.{eight}
use Rattle.search.specs.Steps.{plain_at, plain}
use Rattle.gather.proofs.rows.plain.Goals as goal

pub returns : goal.returns
unfolding plain plain_at eight
returns c = refl
