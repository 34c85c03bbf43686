-- `patterns::next` puts the next bits for one line after another.
use mathlib.Core.Path.{sym}
use Rattle.paper.specs.Listings.{bytes}
use Rattle.paper.specs.Patterns.{binary, next_from}
use Rattle.puts.proofs.Putting.{left_fits, left_more, left_end, first_fits, then_fits, fits_as, put_then}
use Rattle.patterns.specs.Shown.{after_of}
use Rattle.patterns.proofs.PatternTexts.{all_left, next_line, no_line, put_same, same_bits}
use Rattle.patterns.proofs.next.Goals as goal

pub word-after_space-requires : goal.word-after_space-requires
word-after_space-requires c =
    let a = c.args in
    let f = left_fits c.requires.fits (next_line (after_of a.tree a.k a.p) a.w a.k c.loop-j.j c.loop-j-test.true c.loop-j.invariant) in
    first_fits (bytes " ") (binary (after_of a.tree a.k a.p c.loop-j.j) a.w) (first_fits _ _ f)

pub after-requires : goal.after-requires
after-requires c =
    record { shown = c.requires.shown; j_lt_k = c.loop-j-test.true }

pub binary-to-requires : goal.binary-to-requires
binary-to-requires c =
    let a = c.args in
    let f = left_fits c.requires.fits (next_line (after_of a.tree a.k a.p) a.w a.k c.loop-j.j c.loop-j-test.true c.loop-j.invariant) in
    record { w_bound = c.requires.w_bound; fits = fits_as (same_bits a.w (sym c.after.ensures)) (then_fits _ c.word-after_space.ensures (first_fits _ _ f)) }

pub loop-j-preserved : goal.loop-j-preserved
loop-j-preserved c =
    let a = c.args in
    left_more (put_then c.word-after_space.ensures (put_same (same_bits a.w c.after.ensures) c.binary-to.ensures))
    (next_line (after_of a.tree a.k a.p) a.w a.k c.loop-j.j c.loop-j-test.true c.loop-j.invariant)

pub returns : goal.returns
returns c =
    let a = c.args in
    left_end (no_line (after_of a.tree a.k a.p) a.w a.k _ c.loop-j-test.false c.loop-j.invariant)

pub loop-j-init : goal.loop-j-init
loop-j-init c = let a = c.args in all_left (next_from (after_of a.tree a.k a.p) a.w 0) a.k
