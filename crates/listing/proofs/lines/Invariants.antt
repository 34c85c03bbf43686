-- `listing::lines` puts one line after another: after i of them the others are left.
use Rattle.listing.proofs.Numbered.{Counted}
use Rattle.listing.proofs.lines.Given as goal

abbrev pub invariant-loop-i : goal.invariant-loop-i
invariant-loop-i l = Counted l.initial.out l.at l.word l.first l.numbers l.out l.to l.i
