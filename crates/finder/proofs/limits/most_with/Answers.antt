-- `finder::limits::most_with`: the row of a node that fetches b asks for its limit.
use Prim.Native.Nat.{max}
use Prim.Native.Nat.{ℕ}
use mathlib.Core.Path.{refl, ◌∙◌, ap}
use mathlib.Core.List.{List}
use Rattle.search.specs.Steps.{number_of}
use Rattle.search.specs.Passes.{asks}
use Rattle.finder.proofs.Passing.{row_low}
use Rattle.finder.proofs.limits.most_with.Goals as goal

pub asks-requires : goal.asks-requires
asks-requires c =
    row_low _ _ _ c.requires.searched _ c.requires.j_bound _ c.row_of-r.ensures

pub returns-then-fetches : goal.returns-then-fetches
returns-then-fetches c =
    rw (← c.fetches.ensures, c.if-fetches.true) (c.max.ensures ∙ ap (max _) (c.asks.ensures ∙ ap (λ (x : List ℕ). asks (number_of x)) c.row_of-r.ensures))

pub returns : goal.returns
returns c = rw (← c.fetches.ensures, c.if-fetches.false) refl
