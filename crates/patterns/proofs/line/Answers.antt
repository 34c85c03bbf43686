-- `patterns::line`: each part fits because the whole line does, and put one after another they are it.
use Rattle.paper.specs.Patterns.{pattern_line}
use Rattle.puts.proofs.Putting.{first_fits, then_fits, put_then}
use Rattle.patterns.proofs.line.Goals as goal

pub binary-after_pattern-requires : goal.binary-after_pattern-requires
unfolding pattern_line
binary-after_pattern-requires c =
    record { w_bound = c.requires.w_bound; fits = first_fits _ _ c.requires.fits }

pub miss-after_miss-requires : goal.miss-after_miss-requires
unfolding pattern_line
miss-after_miss-requires c =
    record { shown = c.requires.shown; fits = first_fits _ _ (then_fits _ c.binary-after_pattern.ensures c.requires.fits) }

pub next-after_next-requires : goal.next-after_next-requires
unfolding pattern_line
next-after_next-requires c =
    record { w_bound = c.requires.w_bound; shown = c.requires.shown; fits = first_fits _ _ (then_fits _ c.miss-after_miss.ensures (then_fits _ c.binary-after_pattern.ensures c.requires.fits)) }

pub word-requires : goal.word-requires
unfolding pattern_line
word-requires c =
    then_fits _ c.next-after_next.ensures (then_fits _ c.miss-after_miss.ensures (then_fits _ c.binary-after_pattern.ensures c.requires.fits))

pub returns : goal.returns
unfolding pattern_line
returns c =
    put_then c.binary-after_pattern.ensures (put_then c.miss-after_miss.ensures (put_then c.next-after_next.ensures c.word.ensures))
