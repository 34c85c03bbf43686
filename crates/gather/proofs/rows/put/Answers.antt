-- `gather::rows::put`: one return for each branch of the rule.
use mathlib.Core.Path.{refl}
use Rattle.search.specs.Steps.{put}
use Rattle.gather.proofs.rows.put.Goals as goal

pub returns-then-r-among : goal.returns-then-r-among
unfolding put
returns-then-r-among c = rw (← c.among.ensures, c.if-r-among.true) refl

pub grown-requires : goal.grown-requires
grown-requires c =
    c.still_fits.ensures.n_bound c.if-still_fits.true

pub returns-then-still_fits : goal.returns-then-still_fits
unfolding put
returns-then-still_fits c =
    rw (← c.among.ensures, c.if-r-among.false, ← c.still_fits.ensures.value, c.if-still_fits.true) c.grown.ensures

pub returns : goal.returns
unfolding put
returns c =
    rw (← c.among.ensures, c.if-r-among.false, ← c.still_fits.ensures.value, c.if-still_fits.false) c.plain.ensures
