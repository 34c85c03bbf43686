-- The list's length first; then the time is too large exactly where what is cut is (`time_large`, `time_fits`).
use native.Mathlib.Omega.{arith}
use Rattle.paper.specs.Files.{case_of}
use Rattle.timing.proofs.Answered.{wrong_length, time_large, time_fits}
use Rattle.timing.proofs.timed.Goals as goal

pub returns-then-costs-trailer : goal.returns-then-costs-trailer
unfolding case_of
returns-then-costs-trailer c = wrong_length _ _ _ _ (omega (arith, c.if-costs-trailer.true)) _ c.refuse.ensures

pub returns-then-time-ge-TOO_LARGE : goal.returns-then-time-ge-TOO_LARGE
unfolding case_of
returns-then-time-ge-TOO_LARGE c =
    let a = c.args in
    time_large (case_of a.file.now a.trailer) a.costs.now a.penalty a.total c.if-costs-trailer.false _ c.time_of-time.ensures
    (omega (arith, c.if-time-ge-TOO_LARGE.true)) _ c.refuse-then-time-ge-TOO_LARGE.ensures

pub returns : goal.returns
unfolding case_of
returns c =
    let a = c.args in
    time_fits (case_of a.file.now a.trailer) a.costs.now a.penalty a.total c.if-costs-trailer.false _ c.time_of-time.ensures
    (omega (arith, c.if-time-ge-TOO_LARGE.false))
