-- `patterns::lines` puts one line after another: after p of them the others are left.
use Rattle.paper.specs.Patterns.{patterns_from}
use Rattle.puts.proofs.Putting.{left_fits, left_more, left_end, first_fits}
use Rattle.patterns.specs.Shown.{line_of}
use Rattle.patterns.proofs.PatternTexts.{all_left, next_pattern, no_pattern}
use Rattle.patterns.proofs.lines.Goals as goal

pub line-to-requires : goal.line-to-requires
line-to-requires c =
    let h = c.loop-p-test.true in
    record { w_bound = c.requires.w_bound; shown = record { n = _; below = h; shape = c.requires.shape }; fits = first_fits _ _ (left_fits c.requires.fits (next_pattern _ _ _ h c.loop-p.invariant)) }

pub loop-p-preserved : goal.loop-p-preserved
loop-p-preserved c = left_more c.line-to.ensures (next_pattern _ _ _ c.loop-p-test.true c.loop-p.invariant)

pub returns : goal.returns
returns c = left_end (no_pattern _ _ _ c.loop-p-test.false c.loop-p.invariant)

pub loop-p-init : goal.loop-p-init
loop-p-init c = let a = c.args in all_left (patterns_from (line_of a.tree a.k a.w) 0) a.n
