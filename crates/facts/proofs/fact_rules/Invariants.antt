-- `fact_rules` walks through the facts: it is the turn of fact i, which stands at p.
use Rattle.facts.proofs.Walk.{Walked}
use Rattle.facts.proofs.fact_rules.Given as goal

abbrev pub invariant-loop-i : goal.invariant-loop-i
invariant-loop-i l = Walked l.file l.trailer l.i l.previous l.p
