-- `lists::turns::fact_rules` walks through the facts.
use Rattle.lists.proofs.Walk.{Walked}
use Rattle.lists.proofs.turns.FactLists.fact_rules.Given as goal

abbrev pub invariant-loop-i : goal.invariant-loop-i
invariant-loop-i l = Walked l.self.trailer l.self.loops.now l.self.heads.now l.self.rows.now l.i l.previous l.p
